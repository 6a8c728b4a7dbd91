-- Windows of one list of values and of another: each window of some values of both, one after the other.
use Rattle.std.specs.Prelude.{◌≡◌, ℕ, ◌+◌, ◌-◌, ◌≤◌, Bool, true, List, [], ◌∷◌, ◌++◌, length, take, drop}
use Rattle.std.proofs.Common.{ap, arith, sym, ◌∙◌}
use Rattle.std.proofs.lemmas.List.{append-nil, length-append}
use Rattle.ss_summary.specs.Figures.{Figures, unfiltered}
use Rattle.ss_summary.specs.Summaries.{summary_of, time_at_end}
use Rattle.ss_summary.specs.Points.{Point}
use Rattle.ss_targets.specs.Rule.{Rule}
use Rattle.ss_model.specs.Truth.{RiseAtFree}
use Rattle.ss_model.specs.Windows.{stretches, windows, taken}
use Rattle.ss_model.specs.declared.types.Window.{Window}
use Rattle.ss_model.proofs.IntervalLemmas.{AreOf}
use Rattle.ss_laws.specs.Contents.{unfiltered_windows}
use Rattle.ss_model.proofs.Rises.{Rises, Rises-low}
use Rattle.ss_model.proofs.Stretches.{count-summary_of, length-back, length-front, stretches_at, taken-cons, taken-windows}

pub length-AreOf : (ws : List Window) (values : List Point) → AreOf ws values → length values ≡ taken ws
length-AreOf [] values of = ap length of
length-AreOf (w ∷ ws) values of =
    let front = of.0 ∷ of.1 in
    let rest = of.2 in
    let count : w.summary.count ≡ length front = ap (λ (f : Figures). f.count) of.4 in
    omega (arith, ap length of.3, length-append front rest, length-AreOf ws rest of.5, taken-cons w ws)

-- values cut after the same boundaries into pieces of summaries that are alike have windows that are alike
pub stretches-AreOf : (before end : ℕ) (bs : List ℕ) (values others : List Point) → before + length values ≡ end → Rises before bs end
    → AreOf (stretches (before + 1) bs values) others
    → unfiltered_windows (stretches (before + 1) bs others) ≡ unfiltered_windows (stretches (before + 1) bs values)
stretches-AreOf before end bs [] others count rising of = ap (λ values. unfiltered_windows (stretches (before + 1) bs values)) of
stretches-AreOf before end [] (p ∷ ps) others count rising of =
    let front = of.0 ∷ of.1 in
    let is : others ≡ front = of.3 ∙ ap (λ z. front ++ z) of.5 ∙ append-nil front in
    ap (λ values. unfiltered_windows (stretches (before + 1) [] values)) is
    ∙ ap (λ (f : Figures). record { first = before + 1; summary = f } ∷ []) (sym of.4)
stretches-AreOf before end (b ∷ bs) (p ∷ ps) others count rising of =
    let k = b + 1 - (before + 1) in
    let front = of.0 ∷ of.1 in
    let rest = of.2 in
    let above = rising.0 in
    let below = Rises-low b bs end rising.1 in
    let back = length-back before b end (p ∷ ps) count above below in
    let same : length (take k (p ∷ ps)) ≡ length front =
    sym (count-summary_of (take k (p ∷ ps))) ∙ ap (λ (f : Figures). f.count) of.4 in
    let place : before + length front ≡ b = omega (arith, length-front before b end (p ∷ ps) count above below) in
    let later = stretches-AreOf b end bs (drop k (p ∷ ps)) rest back rising.1 of.5 in
    ap (λ values. unfiltered_windows (stretches (before + 1) (b ∷ bs) values)) of.3
    ∙ ap unfiltered_windows (stretches_at before b bs front rest place above)
    ∙ ap (λ (f : Figures). record { first = before + 1; summary = f } ∷ unfiltered_windows (stretches (b + 1) bs rest)) (sym of.4)
    ∙ ap (λ ws. record { first = before + 1; summary = unfiltered (summary_of (take k (p ∷ ps))) } ∷ ws) later

pub length-others : (rule : Rule) (values others : List Point) → AreOf (windows rule values) others → length others ≡ length values
length-others rule values others of = length-AreOf (windows rule values) others of ∙ taken-windows rule values

pub cons-same : {X : Type 0} {x y : X} {xs ys : List X} → x ∷ xs ≡ y ∷ ys → (x ≡ y) × (xs ≡ ys)
cons-same same = (cc, cc)

-- values of some windows are those of windows that are alike
pub AreOf-alike : (ws us : List Window) (values : List Point) → unfiltered_windows ws ≡ unfiltered_windows us → AreOf ws values → AreOf us values
AreOf-alike [] [] values same of = of
AreOf-alike [] (u ∷ us) values same of = cc
AreOf-alike (w ∷ ws) [] values same of = cc
AreOf-alike (w ∷ ws) (u ∷ us) values same of =
    let parts = cons-same same in
    let here : unfiltered u.summary ≡ unfiltered w.summary = sym (ap (λ (x : Window). x.summary) parts.0) in
    (of.0, of.1, of.2, of.3, here ∙ of.4, AreOf-alike ws us of.2 parts.1 of.5)

-- values at rising free times, cut in two
module _ (free : ℕ → Bool) where
  pub RiseAtFree-front : (start : ℕ) (p : Point) (ps rest : List Point) → RiseAtFree free start ((p ∷ ps) ++ rest) → RiseAtFree free start (p ∷ ps)
  RiseAtFree-front start p [] rest rising = (rising.0, rising.1, tt)
  RiseAtFree-front start p (q ∷ qs) rest rising = (rising.0, rising.1, RiseAtFree-front (p.0 + 1) q qs rest rising.2)

  pub RiseAtFree-behind : (start : ℕ) (p : Point) (ps rest : List Point) → RiseAtFree free start ((p ∷ ps) ++ rest)
      → RiseAtFree free (time_at_end p.0 ps + 1) rest
  RiseAtFree-behind start p [] rest rising = rising.2
  RiseAtFree-behind start p (q ∷ qs) rest rising = RiseAtFree-behind (p.0 + 1) q qs rest rising.2

  pub RiseAtFree-append : (start : ℕ) (p : Point) (ps rest : List Point) → RiseAtFree free start (p ∷ ps)
      → RiseAtFree free (time_at_end p.0 ps + 1) rest → RiseAtFree free start ((p ∷ ps) ++ rest)
  RiseAtFree-append start p [] rest rising behind = (rising.0, rising.1, behind)
  RiseAtFree-append start p (q ∷ qs) rest rising behind = (rising.0, rising.1, RiseAtFree-append (p.0 + 1) q qs rest rising.2 behind)

  -- the last time is free, and is later than the first by one at least for each value between
  pub free-last : (start : ℕ) (p : Point) (ps : List Point) → RiseAtFree free start (p ∷ ps) → free (time_at_end p.0 ps) ≡ true
  free-last start p [] rising = rising.1
  free-last start p (q ∷ qs) rising = free-last (p.0 + 1) q qs rising.2

  pub time_at_end-later : (start : ℕ) (p : Point) (ps : List Point) → RiseAtFree free start (p ∷ ps) → p.0 + length ps ≤ time_at_end p.0 ps
  time_at_end-later start p [] rising = omega arith
  time_at_end-later start p (q ∷ qs) rising = let late = rising.2.0 in omega (arith, time_at_end-later (p.0 + 1) q qs rising.2)
