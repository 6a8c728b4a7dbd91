-- How many windows stand once those that are due are joined, and how long each is.
use Rattle.ss_model.proofs.Common.{◌≡◌, ℕ, zero, suc, ◌+◌, ◌-◌, ◌*◌, ◌/◌, ◌^◌, ◌<◌, ◌≤◌, inl, inr, true, false, cond, List, [], ◌∷◌, ◌++◌, length, take, drop}
use Rattle.ss_model.proofs.Common.{map, refl, sym, ap, ◌∙◌, arith, lit≤, add-one, append_assoc, append-nil, length_push, map-append, take-append-drop}
use Rattle.ss_model.proofs.Common.{All-nil, All-cons, All-head, All-tail, All-push, All, and_parts, cases_Bool, cases_lt, cond_both, eq-eqb, eqb-true}
use Rattle.ss_model.proofs.Common.{eqb-false, ne_eqb, exp_length, MOST_VALUES, window_index, fits, window_index-monotone, summary_of, time_at_end, Point}
use Rattle.ss_model.proofs.Common.{boundaries, Rule, in_step, step_of, without_step, stretches, windows, taken, time_at, last_position, joined_window}
use Rattle.ss_model.proofs.Common.{may_join, closed_onto, closed, AreWindows, cover, ends_of, steps_met, IsInStep, NoneIsDue, IsWithinTarget, Window}
use Rattle.std.proofs.Common.{◌==◌}
use Rattle.std.proofs.Math.Nat.{div-one, pow-suc, one-le-pow}
use Rattle.std.proofs.lemmas.List.Elements.{All-weaker}
use Rattle.std.proofs.lemmas.Bool.{cases_eq}
use Rattle.ss_targets.specs.Windowing.{cut, ArePositive, NeverFall}
use Rattle.ss_targets.proofs.WindowingLemmas.{cut-monotone, holds-window_index}
use Rattle.ss_targets.proofs.FirstFitLemmas.{lengths-monotone}
use Rattle.ss_model.specs.Decay.{steps_after}
use Rattle.ss_model.proofs.Rises.{Rises, Rises-low, Rises-boundaries}
use Rattle.ss_model.proofs.Stretches.{count-summary_of, taken-cons, taken-windows, length-front, length-back}
use Rattle.ss_model.proofs.Incremental.{windows_push}
use Rattle.ss_model.proofs.RuleLemmas.{EndAlike, EndAlike-due, IsInStep-closed, MeetSteps, MeetSteps-in_steps, MeetSteps-StandFrom, MeetSteps_joined}
use Rattle.ss_model.proofs.RuleLemmas.{TileFrom, TileFrom-StandFrom, TileFrom_joined, may_join-alike}
use Rattle.ss_model.proofs.Tiles.{taken-append}

pub le_cut-cover : (len : ℕ → ℕ) (n : ℕ) → ArePositive len → n ≤ cut len (cover len n)
le_cut-cover len zero full = omega arith
le_cut-cover len (suc age) full =
    let holds = holds-window_index len age full in
    rw add-one (omega (arith, holds.end))

pub cover_le : (len : ℕ → ℕ) (n k : ℕ) → ArePositive len → n ≤ cut len k → cover len n ≤ k
cover_le len zero k full enough = omega arith
cover_le len (suc age) k full enough = elim (cases_lt (window_index len age) k) [
  | inl below ↦ omega arith
  | inr above ↦
      (let holds = holds-window_index len age full in
      absurd (omega (arith, holds.start, cut-monotone len k (window_index len age) above)))
]

TileFrom-stretches : (before end : ℕ) (bs : List ℕ) (values : List Point) → before + length values ≡ end → Rises before bs end →
    TileFrom (before + 1) (stretches (before + 1) bs values)
TileFrom-stretches before end bs [] count rising = tt
TileFrom-stretches before end [] (p ∷ ps) count rising = (refl, omega arith, tt)
TileFrom-stretches before end (b ∷ bs) (p ∷ ps) count rising =
    let k = b + 1 - (before + 1) in
    let above = rising.0 in
    let below = Rises-low b bs end rising.1 in
    let front = length-front before b end (p ∷ ps) count above below in
    let back = length-back before b end (p ∷ ps) count above below in
    let front_count = count-summary_of (take k (p ∷ ps)) in
    let next : before + 1 + (summary_of (take k (p ∷ ps))).count ≡ b + 1 = omega arith in
    (refl, omega arith, rw next (TileFrom-stretches b end bs (drop k (p ∷ ps)) back rising.1))

TileFrom-windows : (rule : Rule) (values : List Point) → TileFrom 1 (windows rule values)
TileFrom-windows rule [] = tt
TileFrom-windows rule (p ∷ ps) =
    TileFrom-stretches 0 (length (p ∷ ps)) (boundaries rule (time_at (p ∷ ps)) (length (p ∷ ps))) (p ∷ ps) (omega arith)
    (Rises-boundaries rule (time_at (p ∷ ps)) (length (p ∷ ps)) (omega arith))

TileFrom_push : (first : ℕ) (us : List Window) (w : Window) → TileFrom first us → w.first ≡ first + taken us → 1 ≤ w.summary.count →
    TileFrom first (us ++ w ∷ [])
TileFrom_push first [] w tiles place some = (omega arith, some, tt)
TileFrom_push first (u ∷ us) w tiles place some =
    (tiles.0, tiles.1, TileFrom_push (first + u.summary.count) us w tiles.2 (omega (arith, taken-cons u us)) some)

TileFrom-closed_onto : (rule : Rule) (n first : ℕ) (w : Window) (ws : List Window) → TileFrom first (w ∷ ws) → TileFrom first (closed_onto rule n w ws)
TileFrom-closed_onto rule n first w [] tiles = tiles
TileFrom-closed_onto rule n first w (v ∷ vs) tiles =
    cond_both (may_join rule n w v) (closed_onto rule n (joined_window w v) vs) (w ∷ closed_onto rule n v vs) (TileFrom first)
    (λ due. TileFrom-closed_onto rule n first (joined_window w v) vs (TileFrom_joined first w v vs tiles))
    (λ undue. (tiles.0, tiles.1, TileFrom-closed_onto rule n (first + w.summary.count) v vs tiles.2))

-- the first window after a close begins with the first before it, and ends alike
record Heads (rule : Rule) (n : ℕ) (w : Window) (ws : List Window) : Type 0 where
  head : Window
  tail : List Window
  is : ws ≡ head ∷ tail
  last : EndAlike rule n head w

Heads-closed_onto : (rule : Rule) (n first : ℕ) (w : Window) (ws : List Window) → TileFrom first (w ∷ ws) → MeetSteps rule.step (w ∷ ws) →
    Heads rule n w (closed_onto rule n w ws)
Heads-closed_onto rule n first w [] tiles meet = record { head = w; tail = []; is = refl; last = (refl, refl) }
Heads-closed_onto rule n first w (v ∷ vs) tiles meet =
    let some = tiles.1 in
    let behind = tiles.2.0 in
    let front = tiles.0 in
    let same : last_position (joined_window w v) ≡ last_position v = omega arith in
    cond_both (may_join rule n w v) (closed_onto rule n (joined_window w v) vs) (w ∷ closed_onto rule n v vs) (Heads rule n w)
    (λ (due : may_join rule n w v ≡ true).
    let later = Heads-closed_onto rule n first (joined_window w v) vs (TileFrom_joined first w v vs tiles) (MeetSteps_joined rule n w v vs meet due) in
    let ends = EndAlike-due rule n first w v vs tiles meet due in
    record {
      head = later.head;
      tail = later.tail;
      is = later.is;
      last = (later.last.0 ∙ ap (λ p. window_index rule.lengths (n - p)) same ∙ sym ends.0, later.last.1 ∙ sym ends.1);
    })
    (λ undue. record { head = w; tail = closed_onto rule n v vs; is = refl; last = (refl, refl) })

NoneIsDue_behind : (rule : Rule) (n : ℕ) (w v : Window) (vs : List Window) →
    may_join rule n w v ≡ false → Heads rule n v vs → NoneIsDue rule n vs → NoneIsDue rule n (w ∷ vs)
NoneIsDue_behind rule n w v vs undue next none =
    rw next.is (may_join-alike rule n w next.head v next.last ∙ undue, rw next.is at none)

NoneIsDue-closed_onto : (rule : Rule) (n first : ℕ) (w : Window) (ws : List Window) → TileFrom first (w ∷ ws) → MeetSteps rule.step (w ∷ ws) →
    NoneIsDue rule n (closed_onto rule n w ws)
NoneIsDue-closed_onto rule n first w [] tiles meet = tt
NoneIsDue-closed_onto rule n first w (v ∷ vs) tiles meet =
    cond_both (may_join rule n w v) (closed_onto rule n (joined_window w v) vs) (w ∷ closed_onto rule n v vs) (NoneIsDue rule n)
    (λ (due : may_join rule n w v ≡ true). NoneIsDue-closed_onto rule n first (joined_window w v) vs (TileFrom_joined first w v vs tiles)
    (MeetSteps_joined rule n w v vs meet due))
    (λ undue. NoneIsDue_behind rule n w v (closed_onto rule n v vs) undue (Heads-closed_onto rule n (first + w.summary.count) v vs tiles.2 meet.1)
    (NoneIsDue-closed_onto rule n (first + w.summary.count) v vs tiles.2 meet.1))

NoneIsDue-tail : (rule : Rule) (n : ℕ) (w : Window) (ws : List Window) → NoneIsDue rule n (w ∷ ws) → NoneIsDue rule n ws
NoneIsDue-tail rule n w [] none = tt
NoneIsDue-tail rule n w (v ∷ vs) none = none.1

NoneIsDue-tiles : (rule : Rule) (n : ℕ) (ws : List Window) → TileFrom 1 ws → MeetSteps rule.step ws → NoneIsDue rule n (closed rule n ws)
NoneIsDue-tiles rule n [] tiles meet = tt
NoneIsDue-tiles rule n (w ∷ ws) tiles meet = NoneIsDue-closed_onto rule n 1 w ws tiles meet

TileFrom-closed : (rule : Rule) (n : ℕ) (ws : List Window) → TileFrom 1 ws → TileFrom 1 (closed rule n ws)
TileFrom-closed rule n [] tiles = tt
TileFrom-closed rule n (w ∷ ws) tiles = TileFrom-closed_onto rule n 1 w ws tiles

pub NoneIsDue-closed : (rule : Rule) (n : ℕ) (ws : List Window) → AreWindows ws → NoneIsDue rule n (closed rule n ws)
NoneIsDue-closed rule n ws tiles =
    NoneIsDue-tiles rule n ws (TileFrom-StandFrom 1 0 ws tiles.stand) (MeetSteps-StandFrom rule.step 1 0 ws tiles.stand)

-- what holds of some values, and stays when one more is put after, holds whatever is put after
by_pushes : (P : List Point → Type 0) → ((us : List Point) (p : Point) → P us → P (us ++ p ∷ [])) →
    (us vs : List Point) → P us → P (us ++ vs)
by_pushes P step us [] given = rw append-nil given
by_pushes P step us (p ∷ ps) given = rw (append_assoc us (p ∷ []) ps) at (by_pushes P step (us ++ p ∷ []) ps (step us p given))

pub TileFrom-pushed : (rule : Rule) (us : List Point) (p : Point) →
    TileFrom 1 (windows rule us ++ record { first = length us + 1; summary = summary_of (p ∷ []) } ∷ [])
TileFrom-pushed rule us p =
    TileFrom_push 1 (windows rule us) (record { first = length us + 1; summary = summary_of (p ∷ []) }) (TileFrom-windows rule us)
    (omega (arith, taken-windows rule us)) (omega arith)

-- the windows of values lie in one step each, and so do they with one more value
in_steps-pushed : (rule : Rule) (us : List Point) (p : Point) → All (IsInStep rule.step) (windows rule us) →
    All (IsInStep rule.step) (windows rule us ++ record { first = length us + 1; summary = summary_of (p ∷ []) } ∷ [])
in_steps-pushed rule us p all =
    All-push (IsInStep rule.step) (windows rule us) (record { first = length us + 1; summary = summary_of (p ∷ []) }) all (eq-eqb _ _ refl)

pub IsInStep-windows : (rule : Rule) (values : List Point) → All (IsInStep rule.step) (windows rule values)
IsInStep-windows rule values =
    by_pushes (λ us. All (IsInStep rule.step) (windows rule us))
    (λ us p all. rw (windows_push rule us p)
    (IsInStep-closed rule (length us + 1) (windows rule us ++ record { first = length us + 1; summary = summary_of (p ∷ []) } ∷ [])
    (in_steps-pushed rule us p all)))
    [] values (All-nil (IsInStep rule.step))

pub MeetSteps-pushed : (rule : Rule) (us : List Point) (p : Point) →
    MeetSteps rule.step (windows rule us ++ record { first = length us + 1; summary = summary_of (p ∷ []) } ∷ [])
MeetSteps-pushed rule us p =
    MeetSteps-in_steps rule.step (windows rule us ++ record { first = length us + 1; summary = summary_of (p ∷ []) } ∷ [])
    (in_steps-pushed rule us p (IsInStep-windows rule us))

pub NoneIsDue-windows : (rule : Rule) (values : List Point) → NoneIsDue rule (length values) (windows rule values)
NoneIsDue-windows rule values =
    by_pushes (λ us. NoneIsDue rule (length us) (windows rule us))
    (λ us p _. rw (windows_push rule us p, length_push us p)
    (NoneIsDue-tiles rule (length us + 1) (windows rule us ++ record { first = length us + 1; summary = summary_of (p ∷ []) } ∷ [])
    (TileFrom-pushed rule us p) (MeetSteps-pushed rule us p)))
    [] values tt

-- where two positions lie apart, the older has a greater index
pub window_index-apart : (len : ℕ → ℕ) (l r n : ℕ) → l ≤ r → fits len l r n ≡ false → window_index len (n - r) < window_index len (n - l)
window_index-apart len l r n order unfit =
    let apart = eqb-false _ _ unfit in
    omega (arith, window_index-monotone len (n - r) (n - l) (omega arith), apart)

-- whether two steps are others
abbrev pub apart : ℕ → ℕ → ℕ
apart a b = cond (a == b) 0 1

pub apart-same : (a : ℕ) → apart a a ≡ 0
apart-same a = rw (eq-eqb a a refl) refl

pub apart_le : (a b : ℕ) → apart a b ≤ 1
apart_le a b = cond_both (a == b) 0 1 (λ (k : ℕ). k ≤ 1) (λ same. omega arith) (λ other. omega arith)

pub apart-ne : (a b : ℕ) → (a ≡ b → ⊥) → apart a b ≡ 1
apart-ne a b other = rw (ne_eqb a b other) refl

pub apart_through : (a b c : ℕ) → apart a c ≤ apart a b + apart b c
apart_through a b c = elim (cases_eq a b) [
  | inl same ↦ rw same (omega arith)
  | inr other ↦ omega (arith, apart-ne a b other, apart_le a c)
]

-- times after which others stand go on to another step no more often without them
steps_after_via : (step t u : ℕ) (us : List ℕ) → steps_after step t us ≤ apart (step_of step t) (step_of step u) + steps_after step u us
steps_after_via step t u [] = omega arith
steps_after_via step t u (v ∷ us) = omega (arith, apart_through (step_of step t) (step_of step u) (step_of step v))

-- two windows a step, since the second of them ends in a later target window than the first begins in, or in another step of time
length-none_due : (rule : Rule) (n first t : ℕ) (ws : List Window) → TileFrom first ws → NoneIsDue rule n ws →
    length ws ≤ 2 * (window_index rule.lengths (n - first) + steps_after rule.step t (ends_of ws)) + 1
length-none_due rule n first t [] tiles none = omega arith
length-none_due rule n first t (w ∷ []) tiles none = omega arith
length-none_due rule n first t (w ∷ v ∷ vs) tiles none =
    let len = rule.lengths in
    let c : ℕ → ℕ = step_of rule.step in
    let f = w.summary in
    let g = v.summary in
    let front = tiles.0 in
    let some = tiles.1 in
    let behind = tiles.2.0 in
    let some_behind = tiles.2.1 in
    let next = first + w.summary.count + v.summary.count in
    let rest = length-none_due rule n next g.t_last vs tiles.2.2 (NoneIsDue-tail rule n v vs none.1) in
    let same : n - w.first ≡ n - first = omega arith in
    let younger = window_index-monotone len (n - next) (n - last_position v) (omega arith) in
    let older = rw same at (window_index-monotone len (n - last_position v) (n - w.first) (omega arith)) in
    elim (cases_Bool (in_step rule.step f.t_first g.t_last)) [
      | inl one ↦
          (let unfit : fits len w.first (last_position v) n ≡ false = rw one at none.0 in
          let later = rw same at (window_index-apart len w.first (last_position v) n (omega arith) unfit) in
          omega arith)
      | inr other ↦
          (let entered : apart (c f.t_first) (c g.t_last) ≡ 1 = apart-ne _ _ (eqb-false _ _ other) in
          let over = apart_through (c f.t_first) (c f.t_last) (c g.t_last) in
          let on = apart_through (c f.t_last) (c g.t_first) (c g.t_last) in
          omega arith)
    ]

-- Of windows in one step each: one for each other step that comes, and at most two for each earlier target window that does, since the
-- second of them ends in a later target window than the first begins in.
length-in_steps : (rule : Rule) (n first : ℕ) (w : Window) (ws : List Window) → TileFrom first (w ∷ ws) → NoneIsDue rule n (w ∷ ws) →
    All (IsInStep rule.step) (w ∷ ws) →
    length (w ∷ ws) ≤ window_index rule.lengths (n - first) + window_index rule.lengths (n - last_position w)
    + steps_after rule.step w.summary.t_last (ends_of ws) + 1
length-in_steps rule n first w [] tiles none inside = omega arith
length-in_steps rule n first w (v ∷ vs) tiles none inside =
    let len = rule.lengths in
    let c : ℕ → ℕ = step_of rule.step in
    let f = w.summary in
    let g = v.summary in
    let front = tiles.0 in
    let some = tiles.1 in
    let behind = tiles.2.0 in
    let some_behind = tiles.2.1 in
    let next = first + w.summary.count in
    let all = All-tail (IsInStep rule.step) w (v ∷ vs) inside in
    let rest = length-in_steps rule n next v vs tiles.2 none.1 all in
    let same : n - w.first ≡ n - first = omega arith in
    let own = window_index-monotone len (n - last_position w) (n - first) (omega arith) in
    let across = window_index-monotone len (n - next) (n - last_position w) (omega arith) in
    let own_behind = window_index-monotone len (n - last_position v) (n - next) (omega arith) in
    elim (cases_Bool (in_step rule.step f.t_first g.t_last)) [
      | inl one ↦
          (let unfit : fits len w.first (last_position v) n ≡ false = rw one at none.0 in
          let later = rw same at (window_index-apart len w.first (last_position v) n (omega arith) unfit) in
          omega arith)
      | inr other ↦
          (let held : c f.t_first ≡ c f.t_last = eqb-true _ _ (All-head (IsInStep rule.step) w (v ∷ vs) inside) in
          let held_behind : c g.t_first ≡ c g.t_last = eqb-true _ _ (All-head (IsInStep rule.step) v vs all) in
          let entered : apart (c f.t_last) (c g.t_first) ≡ 1 =
          apart-ne _ _ (λ (one : c f.t_last ≡ c g.t_first). eqb-false _ _ other (held ∙ one ∙ held_behind)) in
          omega arith)
    ]

-- the last times of windows are among those that they are of
steps_after-end : (step t : ℕ) (ps : List Point) (us : List ℕ) →
    apart (step_of step t) (step_of step (time_at_end t ps)) + steps_after step (time_at_end t ps) us ≤ steps_after step t (map (λ (p : Point). p.0) ps ++ us)
steps_after-end step t [] us = omega (arith, apart-same (step_of step t))
steps_after-end step t (p ∷ ps) us =
    omega (
      arith,
      apart_through (step_of step t) (step_of step p.0) (step_of step (time_at_end p.0 ps)),
      steps_after-end step p.0 ps us,
    )

times-append : (xs ys : List Point) → map (λ (p : Point). p.0) (xs ++ ys) ≡ map (λ (p : Point). p.0) xs ++ map (λ (p : Point). p.0) ys
times-append xs ys = map-append (λ (p : Point). p.0) xs ys

steps_after-front : (step t : ℕ) (xs : List Point) (us : List ℕ) → 0 < length xs →
    steps_after step t ((summary_of xs).t_first ∷ (summary_of xs).t_last ∷ us) ≤ steps_after step t (map (λ (p : Point). p.0) xs ++ us)
steps_after-front step t [] us some = absurd (omega arith)
steps_after-front step t (p ∷ ps) us some = omega (arith, steps_after-end step p.0 ps us)

steps_after-more : (step t : ℕ) (ts us vs : List ℕ) → ((u : ℕ) → steps_after step u us ≤ steps_after step u vs) →
    steps_after step t (ts ++ us) ≤ steps_after step t (ts ++ vs)
steps_after-more step t [] us vs fewer = fewer t
steps_after-more step t (u ∷ ts) us vs fewer = omega (arith, steps_after-more step u ts us vs fewer)

steps_after-stretches : (step t before end : ℕ) (bs : List ℕ) (values : List Point) → before + length values ≡ end → Rises before bs end →
    steps_after step t (ends_of (stretches (before + 1) bs values)) ≤ steps_after step t (map (λ (p : Point). p.0) values)
steps_after-stretches step t before end bs [] count rising = omega arith
steps_after-stretches step t before end [] (p ∷ ps) count rising =
    let all = append-nil (map (λ (q : Point). q.0) ps) in
    omega (arith, steps_after-front step t (p ∷ ps) [] (omega arith), ap (λ us. steps_after step p.0 us) all)
steps_after-stretches step t before end (b ∷ bs) (p ∷ ps) count rising =
    let k = b + 1 - (before + 1) in
    let front : List Point = take k (p ∷ ps) in
    let back : List Point = drop k (p ∷ ps) in
    let above = rising.0 in
    let below = Rises-low b bs end rising.1 in
    let front_count = length-front before b end (p ∷ ps) count above below in
    let back_count = length-back before b end (p ∷ ps) count above below in
    let ends = ends_of (stretches (b + 1) bs back) in
    let first = steps_after-front step t front ends (omega arith) in
    let rest = steps_after-more step t (map (λ (p : Point). p.0) front) ends (map (λ (p : Point). p.0) back)
    (λ u. steps_after-stretches step u b end bs back back_count rising.1) in
    let whole : map (λ (p : Point). p.0) front ++ map (λ (p : Point). p.0) back ≡ map (λ (p : Point). p.0) (p ∷ ps) =
    sym (times-append front back) ∙ ap (map (λ (p : Point). p.0)) (take-append-drop k (p ∷ ps)) in
    omega (arith, first, rest, ap (steps_after step t) whole)

-- and those of joined windows among those of the windows before
steps_after-closed_onto : (rule : Rule) (n t : ℕ) (w : Window) (ws : List Window) →
    steps_after rule.step t (ends_of (closed_onto rule n w ws)) ≤ steps_after rule.step t (ends_of (w ∷ ws))
steps_after-closed_onto rule n t w [] = omega arith
steps_after-closed_onto rule n t w (v ∷ vs) =
    let c : ℕ → ℕ = step_of rule.step in
    let f = w.summary in
    let g = v.summary in
    let through = apart_through (c f.t_first) (c f.t_last) (c g.t_last) in
    let on = apart_through (c f.t_last) (c g.t_first) (c g.t_last) in
    let joined = steps_after-closed_onto rule n t (joined_window w v) vs in
    let behind = steps_after-closed_onto rule n f.t_last v vs in
    cond_both (may_join rule n w v) (closed_onto rule n (joined_window w v) vs) (w ∷ closed_onto rule n v vs)
    (λ (us : List Window). steps_after rule.step t (ends_of us) ≤ steps_after rule.step t (ends_of (w ∷ v ∷ vs)))
    (λ due. omega arith) (λ undue. omega arith)

length_cover : (rule : Rule) (n t : ℕ) (ws : List Window) → TileFrom 1 ws → NoneIsDue rule n ws → 0 < n →
    length ws + 1 ≤ 2 * (cover rule.lengths n + steps_after rule.step t (ends_of ws))
length_cover rule zero t ws tiles none some = absurd (omega arith)
length_cover rule (suc age) t ws tiles none some =
    let same : suc age - 1 ≡ age = omega arith in
    let bound = rw same at (length-none_due rule (suc age) 1 t ws tiles none) in
    omega arith

-- so at most two for each target window, and one for each step, without two
length_cover-in_steps : (rule : Rule) (n t : ℕ) (ws : List Window) → TileFrom 1 ws → NoneIsDue rule n ws → All (IsInStep rule.step) ws → 0 < n →
    length ws + 1 ≤ 2 * cover rule.lengths n + steps_after rule.step t (ends_of ws)
length_cover-in_steps rule zero t ws tiles none inside some = absurd (omega arith)
length_cover-in_steps rule (suc age) t [] tiles none inside some = omega arith
length_cover-in_steps rule (suc age) t (w ∷ ws) tiles none inside some =
    let same : suc age - 1 ≡ age = omega arith in
    let front = tiles.0 in
    let count = tiles.1 in
    let bound = rw same at (length-in_steps rule (suc age) 1 w ws tiles none inside) in
    let own = window_index-monotone rule.lengths (suc age - last_position w) age (omega arith) in
    omega arith

pub length-windows_met : (rule : Rule) (values : List Point) → 0 < length values →
    length (windows rule values) + 2 ≤ 2 * cover rule.lengths (length values) + steps_met rule.step (map (λ (p : Point). p.0) values)
length-windows_met rule [] some = absurd (omega arith)
length-windows_met rule (p ∷ ps) some =
    let n = length (p ∷ ps) in
    let time = time_at (p ∷ ps) in
    let bound = length_cover-in_steps rule n p.0 (windows rule (p ∷ ps)) (TileFrom-windows rule (p ∷ ps)) (NoneIsDue-windows rule (p ∷ ps))
    (IsInStep-windows rule (p ∷ ps)) some in
    let fewer = steps_after-stretches rule.step p.0 0 n (boundaries rule time n) (p ∷ ps) (omega arith) (Rises-boundaries rule time n some) in
    omega (arith, apart-same (step_of rule.step p.0))

pub length-closed_met : (rule : Rule) (n : ℕ) (ws : List Window) → AreWindows ws → taken ws ≡ n → 0 < n →
    length (closed rule n ws) + 1 ≤ 2 * (cover rule.lengths n + steps_met rule.step (ends_of ws) - 1)
length-closed_met rule n [] tiles all some = absurd (omega arith)
length-closed_met rule n (w ∷ ws) tiles all some =
    let t = w.summary.t_first in
    let bound = length_cover rule n t (closed rule n (w ∷ ws)) (TileFrom-closed rule n (w ∷ ws) (TileFrom-StandFrom 1 0 (w ∷ ws) tiles.stand))
    (NoneIsDue-closed rule n (w ∷ ws) tiles) some in
    let fewer = steps_after-closed_onto rule n t w ws in
    omega (arith, apart-same (step_of rule.step t))

pub length-closed_within : (rule : Rule) (n : ℕ) (ws : List Window) → AreWindows ws → All (IsInStep rule.step) ws → taken ws ≡ n → 0 < n →
    length (closed rule n ws) + 2 ≤ 2 * cover rule.lengths n + steps_met rule.step (ends_of ws)
length-closed_within rule n [] tiles inside all some = absurd (omega arith)
length-closed_within rule n (w ∷ ws) tiles inside all some =
    let t = w.summary.t_first in
    let bound = length_cover-in_steps rule n t (closed rule n (w ∷ ws))
    (TileFrom-closed rule n (w ∷ ws) (TileFrom-StandFrom 1 0 (w ∷ ws) tiles.stand)) (NoneIsDue-closed rule n (w ∷ ws) tiles)
    (IsInStep-closed rule n (w ∷ ws) inside) some in
    let fewer = steps_after-closed_onto rule n t w ws in
    omega (arith, apart-same (step_of rule.step t))

-- without a step no time goes on to another
pub steps_after-none : (t : ℕ) (us : List ℕ) → steps_after 0 t us ≡ 0
steps_after-none t [] = refl
steps_after-none t (u ∷ us) = omega (arith, steps_after-none u us)

pub length-windows : (len : ℕ → ℕ) (values : List Point) → 0 < length values →
    length (windows (without_step len) values) + 1 ≤ 2 * cover len (length values)
length-windows len values some =
    let bound = length_cover (without_step len) (length values) 0 (windows (without_step len) values) (TileFrom-windows (without_step len) values)
    (NoneIsDue-windows (without_step len) values) some in
    omega (arith, bound, steps_after-none 0 (ends_of (windows (without_step len) values)))

pub length-closed : (len : ℕ → ℕ) (n : ℕ) (ws : List Window) → AreWindows ws → taken ws ≡ n → 0 < n →
    length (closed (without_step len) n ws) + 1 ≤ 2 * cover len n
length-closed len n ws tiles all some =
    let bound = length_cover (without_step len) n 0 (closed (without_step len) n ws)
    (TileFrom-closed (without_step len) n ws (TileFrom-StandFrom 1 0 ws tiles.stand)) (NoneIsDue-closed (without_step len) n ws tiles) some in
    omega (arith, bound, steps_after-none 0 (ends_of (closed (without_step len) n ws)))

-- positions that lie together in one target window are no more than it holds
fits-length : (len : ℕ → ℕ) (l r n count : ℕ) → ArePositive len → l + count ≡ r + 1 → r ≤ n → fits len l r n ≡ true → count ≤ len (window_index len (n - r))
fits-length len l r n count full run taken fit =
    let young = holds-window_index len (n - r) full in
    let old = rw (eqb-true _ _ fit) at (holds-window_index len (n - l) full) in
    omega (arith, young.start, old.end)

IsWithinTarget_joined : (rule : Rule) (n first : ℕ) (w v : Window) (vs : List Window) → ArePositive rule.lengths → TileFrom first (w ∷ v ∷ vs) →
    first + taken (w ∷ v ∷ vs) ≤ n + 1 → may_join rule n w v ≡ true → IsWithinTarget rule.lengths n (joined_window w v)
IsWithinTarget_joined rule n first w v vs full tiles room due =
    let front = tiles.0 in
    let behind = tiles.2.0 in
    let some = tiles.2.1 in
    let same : last_position (joined_window w v) ≡ last_position v = omega arith in
    rw same (fits-length rule.lengths w.first (last_position v) n (w.summary.count + v.summary.count) full (omega arith)
    (omega (arith, taken-cons w (v ∷ vs), taken-cons v vs)) (and_parts _ _ due).1)

IsWithinTarget-closed_onto : (rule : Rule) (n first : ℕ) (w : Window) (ws : List Window) → ArePositive rule.lengths → TileFrom first (w ∷ ws) →
    first + taken (w ∷ ws) ≤ n + 1 → All (IsWithinTarget rule.lengths n) (w ∷ ws) → All (IsWithinTarget rule.lengths n) (closed_onto rule n w ws)
IsWithinTarget-closed_onto rule n first w [] full tiles room within = within
IsWithinTarget-closed_onto rule n first w (v ∷ vs) full tiles room within =
    let P = IsWithinTarget rule.lengths n in
    let behind = All-tail P w (v ∷ vs) within in
    cond_both (may_join rule n w v) (closed_onto rule n (joined_window w v) vs) (w ∷ closed_onto rule n v vs) (All P)
    (λ due. IsWithinTarget-closed_onto rule n first (joined_window w v) vs full (TileFrom_joined first w v vs tiles)
    (omega (arith, taken-cons w (v ∷ vs), taken-cons v vs, taken-cons (joined_window w v) vs))
    (All-cons P (joined_window w v) vs (IsWithinTarget_joined rule n first w v vs full tiles room due) (All-tail P v vs behind)))
    (λ undue. All-cons P w (closed_onto rule n v vs) (All-head P w (v ∷ vs) within)
    (IsWithinTarget-closed_onto rule n (first + w.summary.count) v vs full tiles.2 (omega (arith, taken-cons w (v ∷ vs))) behind))

IsWithinTarget-closed : (rule : Rule) (n : ℕ) (ws : List Window) → ArePositive rule.lengths → TileFrom 1 ws →
    taken ws ≤ n → All (IsWithinTarget rule.lengths n) ws → All (IsWithinTarget rule.lengths n) (closed rule n ws)
IsWithinTarget-closed rule n [] full tiles room within = within
IsWithinTarget-closed rule n (w ∷ ws) full tiles room within = IsWithinTarget-closed_onto rule n 1 w ws full tiles (omega arith) within

IsWithinTarget-later : (len : ℕ → ℕ) (n : ℕ) (w : Window) → NeverFall len → IsWithinTarget len n w → IsWithinTarget len (n + 1) w
IsWithinTarget-later len n w rising within =
    omega (arith, within, lengths-monotone len _ _ rising (window_index-monotone len (n - last_position w) (n + 1 - last_position w) (omega arith)))

pub IsWithinTarget-windows : (rule : Rule) (values : List Point) → ArePositive rule.lengths → NeverFall rule.lengths →
    All (IsWithinTarget rule.lengths (length values)) (windows rule values)
IsWithinTarget-windows rule values full rising =
    let len = rule.lengths in
    by_pushes (λ us. All (IsWithinTarget len (length us)) (windows rule us))
    (λ us p within.
    let n = length us + 1 in
    let new : Window = record { first = n; summary = summary_of (p ∷ []) } in
    let older = All-weaker (IsWithinTarget len (length us)) (IsWithinTarget len n) (λ w. IsWithinTarget-later len (length us) w rising)
    (windows rule us) within in
    rw (windows_push rule us p, length_push us p)
    (IsWithinTarget-closed rule n (windows rule us ++ new ∷ []) full (TileFrom-pushed rule us p)
    (omega (arith, taken-append (windows rule us) (new ∷ []), taken-windows rule us))
    (All-push (IsWithinTarget len n) (windows rule us) new older (full _))))
    [] values (All-nil (IsWithinTarget len 0))

-- of the lengths 1, 2, 4, 8, .. the first i hold 2^i - 1 values
cut-doubling : (i : ℕ) → cut (exp_length 2 1 1) i + 1 ≡ 2 ^ i
cut-doubling zero = refl
cut-doubling (suc i) = rw (div-one, pow-suc) (omega (arith, cut-doubling i))

pub cover-doubling : (n : ℕ) → n ≤ MOST_VALUES → cover (exp_length 2 1 1) n ≤ 41
cover-doubling n few =
    cover_le (exp_length 2 1 1) n 41 (λ i. omega (arith, one-le-pow (i / 1) 2 (lit≤ tt))) (omega (arith, cut-doubling 41))
