-- How few windows stand where none is due, by the positions and the times of their entries.
use Rattle.ss_stream.proofs.Common.{◌≡◌, ℕ, zero, suc, ◌+◌, ◌-◌, ◌*◌, ◌<◌, ◌≤◌, inl, inr, false, List, [], ◌∷◌, length, arith, cases_Bool}
use Rattle.ss_stream.proofs.Common.{window_index, Entry, cover, steps_met, Rule, TileFrom, ends_held, values_held}
use Rattle.ss_stream.proofs.Common.{NoEntriesAreDue}
use Rattle.std.proofs.lemmas.Bool.{eqb-false}
use Rattle.ss_targets.specs.Windowing.{fits}
use Rattle.ss_targets.specs.WindowingLaws.{window_index-monotone}
use Rattle.ss_model.specs.Decay.{steps_after}
use Rattle.ss_model.proofs.DecayLemmas.{apart, apart-ne, apart-same, apart_through, steps_after-none, window_index-apart}
use Rattle.ss_targets.specs.Rule.{in_step, step_of, without_step}

-- of what is behind the first entry none is due
none-behind : (rule : Rule) (n : ℕ) (e : Entry) (es : List Entry) → NoEntriesAreDue rule n (e ∷ es) → NoEntriesAreDue rule n es
none-behind rule n e [] none = tt
none-behind rule n e (f ∷ es) none = none.1

-- two entries a step, since the second of them ends in a later target window than the first begins in, or in another step of time
length_behind : (rule : Rule) (n first t : ℕ) (es : List Entry) → TileFrom first es → NoEntriesAreDue rule n es →
    length es ≤ 2 * (window_index rule.lengths (n - first) + steps_after rule.step t (ends_held es)) + 1
length_behind rule n first t [] tiles none = omega arith
length_behind rule n first t (e ∷ []) tiles none = omega arith
length_behind rule n first t (e ∷ f ∷ es) tiles none =
    let len = rule.lengths in
    let c : ℕ → ℕ = step_of rule.step in
    let front = tiles.0 in
    let some = tiles.1 in
    let behind = tiles.3.0 in
    let some_behind = tiles.3.1 in
    let rest = length_behind rule n (f.last + 1) f.t_last es tiles.3.3 (none-behind rule n f es none.1) in
    let same : n - e.first ≡ n - first = omega arith in
    let younger = window_index-monotone len (n - (f.last + 1)) (n - f.last) (omega arith) in
    let older = rw same at (window_index-monotone len (n - f.last) (n - e.first) (omega arith)) in
    elim (cases_Bool (in_step rule.step e.t_first f.t_last)) [
      | inl one ↦
          (let unfit : fits len e.first f.last n ≡ false = rw one at none.0 in
          let later = rw same at (window_index-apart len e.first f.last n (omega arith) unfit) in
          omega arith)
      | inr other ↦
          (let entered : apart (c e.t_first) (c f.t_last) ≡ 1 = apart-ne _ _ (eqb-false _ _ other) in
          let over = apart_through (c e.t_first) (c e.t_last) (c f.t_last) in
          let on = apart_through (c e.t_last) (c f.t_first) (c f.t_last) in
          omega arith)
    ]

length_cover : (rule : Rule) (n t : ℕ) (es : List Entry) → TileFrom 1 es → NoEntriesAreDue rule n es → 0 < n →
    length es + 1 ≤ 2 * (cover rule.lengths n + steps_after rule.step t (ends_held es))
length_cover rule zero t es tiles none some = absurd (omega arith)
length_cover rule (suc age) t es tiles none some =
    let same : suc age - 1 ≡ age = omega arith in
    let bound = rw same at (length_behind rule (suc age) 1 t es tiles none) in
    omega arith

-- where no two neighbours may be one, at most 2(K + B - 1) - 1 stand, where K target windows cover the values, and their times
-- lie in B steps
pub length-none_due : (rule : Rule) (es : List Entry) → TileFrom 1 es → NoEntriesAreDue rule (values_held es) es → 0 < values_held es →
    length es + 1 ≤ 2 * (cover rule.lengths (values_held es) + steps_met rule.step (ends_held es) - 1)
length-none_due rule [] tiles none some = absurd (omega arith)
length-none_due rule (e ∷ es) tiles none some =
    let bound = length_cover rule (values_held (e ∷ es)) e.t_first (e ∷ es) tiles none some in
    omega (arith, bound, apart-same (step_of rule.step e.t_first))

-- so at most 2K - 1 stand
pub length-none_due-without_step : (len : ℕ → ℕ) (es : List Entry) → TileFrom 1 es → NoEntriesAreDue (without_step len) (values_held es) es →
    0 < values_held es → length es + 1 ≤ 2 * cover len (values_held es)
length-none_due-without_step len es tiles none some =
    let bound = length_cover (without_step len) (values_held es) 0 es tiles none some in
    omega (arith, bound, steps_after-none 0 (ends_held es))
