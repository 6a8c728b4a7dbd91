-- Values that can be said, and windows of such values.
use Rattle.std.specs.Prelude.{ℕ, ◌+◌, ◌≤◌, Bool, ℤ, ◌≤ℤ◌, FitsSigned, List, [], ◌∷◌, All}
use Rattle.std.specs.Int.{w64}
use Rattle.std.specs.List.{AllByRecursion}
use Rattle.std.proofs.Common.{arith, sym, subst}
use Rattle.std.proofs.lemmas.Int.{ints, clamps}
use Rattle.std.proofs.lemmas.List.Elements.{All-from_recursion, recursion_from_All}
use Rattle.ss_base.specs.declared.limits.TheConstants.{LAST_TIME}
use Rattle.ss_summary.specs.Figures.{Figures}
use Rattle.ss_summary.specs.Summaries.{greatest, time_at_end, least}
use Rattle.ss_summary.specs.Points.{Point}
use Rattle.ss_model.specs.Tiling.{StandFrom}
use Rattle.ss_model.specs.Truth.{RiseAtFree}
use Rattle.ss_model.specs.declared.types.Window.{Window}
use Rattle.ss_model.proofs.IntervalLemmas.{AreOf}
use Rattle.ss_model.proofs.FoundLemmas.{each-append, each-behind, each-front}
use Rattle.ss_laws.specs.Contents.{IsSayableValue}
use Rattle.ss_laws.proofs.PieceLemmas.{RiseAtFree-behind, RiseAtFree-front, time_at_end-later}

-- the last time of a window, its least and its greatest value can be said
pub record HasSayable (w : Window) : Type 0 where
  pub last : w.summary.t_last ≤ LAST_TIME
  pub min : FitsSigned w64 w.summary.min
  pub max : FitsSigned w64 w.summary.max

-- a summary of values that can be said, and back
extremes-sayable : (p : Point) (ps : List Point) → AllByRecursion IsSayableValue (p ∷ ps)
    → (time_at_end p.0 ps ≤ LAST_TIME) × FitsSigned w64 (least p.1 ps) × FitsSigned w64 (greatest p.1 ps)
extremes-sayable p [] each = (each.0.0, each.0.1, each.0.1)
extremes-sayable p (q ∷ qs) each =
    let here = each.0.1 in
    let rest = extremes-sayable q qs each.1 in
    let low = rest.1 in
    let high = rest.2 in
    (rest.0, omega (arith, ints, clamps), omega (arith, ints, clamps))

module _ (free : ℕ → Bool) where
  each-sayable : (m M : ℤ) (start : ℕ) (p : Point) (ps : List Point) → RiseAtFree free start (p ∷ ps) → time_at_end p.0 ps ≤ LAST_TIME
      → FitsSigned w64 m → FitsSigned w64 M → m ≤ℤ least p.1 ps → greatest p.1 ps ≤ℤ M → AllByRecursion IsSayableValue (p ∷ ps)
  each-sayable m M start p [] rising last min_fits max_fits low high = ((last, omega (arith, ints)), tt)
  each-sayable m M start p (q ∷ qs) rising last min_fits max_fits low high =
      let after = time_at_end-later free start p (q ∷ qs) rising in
      let later_last : time_at_end q.0 qs ≤ LAST_TIME = last in
      let early : p.0 ≤ LAST_TIME = omega arith in
      let fits : FitsSigned w64 p.1 = omega (arith, ints, clamps) in (
        (early, fits),
        each-sayable m M (p.0 + 1) q qs rising.2 later_last min_fits max_fits (omega (arith, ints, clamps)) (omega (arith, ints, clamps)),
      )

  windows-sayable : (ws : List Window) (values : List Point) → AreOf ws values → AllByRecursion IsSayableValue values → AllByRecursion HasSayable ws
  windows-sayable [] values of each = tt
  windows-sayable (w ∷ ws) values of each =
      let each = subst (AllByRecursion IsSayableValue) of.3 each in
      let said = extremes-sayable of.0 of.1 (each-front IsSayableValue (of.0 ∷ of.1) of.2 each) in
      let here = subst (λ (f : Figures). HasSayable (record { first = w.first; summary = f })) (sym of.4)
      (record { last = said.0; min = said.1; max = said.2 }) in (
        record { last = here.last; min = here.min; max = here.max },
        windows-sayable ws of.2 of.5 (each-behind IsSayableValue (of.0 ∷ of.1) of.2 each),
      )

  values-sayable : (start : ℕ) (ws : List Window) (values : List Point) → AreOf ws values → RiseAtFree free start values
      → AllByRecursion HasSayable ws → AllByRecursion IsSayableValue values
  values-sayable start [] values of rising said = subst (AllByRecursion IsSayableValue) (sym of) tt
  values-sayable start (w ∷ ws) values of rising said =
      let p = of.0 in
      let ps = of.1 in
      let rising = subst (RiseAtFree free start) of.3 rising in
      let here = subst (λ (f : Figures). HasSayable (record { first = w.first; summary = f })) of.4
      (record { last = said.0.last; min = said.0.min; max = said.0.max }) in
      let front = each-sayable (least p.1 ps) (greatest p.1 ps) start p ps (RiseAtFree-front free start p ps of.2 rising) here.last here.min here.max
      (omega (arith, ints)) (omega (arith, ints)) in
      let behind = values-sayable (time_at_end p.0 ps + 1) ws of.2 of.5 (RiseAtFree-behind free start p ps of.2 rising) said.1 in
      subst (AllByRecursion IsSayableValue) (sym of.3) (each-append IsSayableValue (p ∷ ps) of.2 front behind)

  -- other values of the same windows can be said too
  pub sayable-others : (start : ℕ) (ws : List Window) (values others : List Point) → AreOf ws values → AreOf ws others
      → RiseAtFree free start others → All IsSayableValue values → All IsSayableValue others
  sayable-others start ws values others of of_others rising said =
      All-from_recursion IsSayableValue others
      (values-sayable start ws others of_others rising (windows-sayable ws values of (recursion_from_All IsSayableValue values said)))

  -- so can those of windows that stand
  StandFrom-sayable : (first time : ℕ) (ws : List Window) → StandFrom first time ws → AllByRecursion HasSayable ws
  StandFrom-sayable first time [] stand = tt
  StandFrom-sayable first time (w ∷ ws) stand =
      let possible = stand.1 in (
        record { last = possible.last; min = possible.min_fits; max = possible.max_fits },
        StandFrom-sayable (first + w.summary.count) (w.summary.t_last + 1) ws stand.3,
      )

  pub sayable-standing : (first time start : ℕ) (ws : List Window) (values : List Point) → StandFrom first time ws → AreOf ws values
      → RiseAtFree free start values → All IsSayableValue values
  sayable-standing first time start ws values stand of rising =
      All-from_recursion IsSayableValue values (values-sayable start ws values of rising (StandFrom-sayable first time ws stand))
