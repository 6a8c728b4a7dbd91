-- A range of whole steps splits no window that lies in one step.
use Rattle.ss_model.proofs.Common.{◌≡◌, ℕ, suc, ◌+◌, ◌-◌, ◌*◌, ◌/◌, ◌<◌, ◌≤◌, false, List, [], ◌∷◌, refl, ap, sym, ◌∙◌, subst, arith, None, Some, inl, inr}
use Rattle.ss_model.proofs.Common.{IfSome, All, Option, ◌||◌, nat_le, nat_lt, filter, option_map_or, div-mul-le_self, cases_lt, eqb-true, nat_tests, All-head}
use Rattle.ss_model.proofs.Common.{All-tail, All-nil, All-cons, step_number, row_query, Query, Series, IsExactOutcome, outcome_of, split_by, IsInStep}
use Rattle.ss_model.proofs.Common.{is_split, IsState, IsStream, Stream, stream_named, AreWholeSteps, HasWholeRows, IsWithin}
use Rattle.ss_model.proofs.Common.{reached_in, reached_by, Outcome, Window}
use Rattle.ss_model.proofs.Common.{AreWindows, StandFrom, newest_time}
use Rattle.ss_base.specs.declared.limits.TheConstants.{LAST_TIME}
use Rattle.std.specs.Prelude.{◌⊎◌}
use Rattle.std.proofs.Common.{◌%◌}
use Rattle.std.proofs.Common.{mul-le-mul_right, add-mul, suc-mul, mul_assoc}
use Rattle.std.specs.Prelude.{min, ◌&&◌, not}
use Rattle.std.proofs.Math.Nat.{add-mul-mod_self_right, lt-div-mul-add, mod-eq-sub-div-mul}
use Rattle.ss_catalog.specs.Series.{row_start}
use Rattle.ss_model.proofs.AnswerLemmas.{answer-exact}
use Rattle.ss_model.proofs.RisingLemmas.{All-named}
use Rattle.ss_model.proofs.RuleLemmas.{step_of-quotient}

-- a boundary is as many steps as go into it
boundary-is : (n step : ℕ) → n % step ≡ 0 → n ≡ n / step * step
boundary-is n step none = omega (arith, mod-eq-sub-div-mul n step, div-mul-le_self n step, none)

-- one step more, and no more steps than others
step-more : (q a step : ℕ) → q < a → q * step + step ≤ a * step
step-more q a step less = omega (arith, mul-le-mul_right {m = suc q} {n = a} step less, suc-mul q step)

-- where a window of one step lies to a range that begins at a boundary: before it, or it begins in it
begun-step : (step from first last : ℕ) → 0 < step → from % step ≡ 0 → first / step ≡ last / step → (last < from) ⊎ (from ≤ first)
begun-step step from first last some start same =
    let low = boundary-is from step start in
    let first_low = div-mul-le_self first step in
    let last_high : last < first / step * step + step = rw same (lt-div-mul-add {a = last} {b = step} some) in
    elim (cases_lt (first / step) (from / step)) [
      | inl before ↦ (let more = step-more (first / step) (from / step) step before in inl (omega arith))
      | inr after ↦ (let begin = mul-le-mul_right {m = from / step} {n = first / step} step after in inr (omega arith))
    ]

-- where it ends no later than the range, it is cut neither there
unsplit-reached : (step from to first last : ℕ) → 0 < step → from % step ≡ 0 → last ≤ to → first / step ≡ last / step →
    (not (nat_le from first && nat_le last to) && not (nat_lt last from || nat_lt to first)) ≡ false
unsplit-reached step from to first last some start end same = elim (begun-step step from first last some start same) [
  | inl before ↦ grind (arith, nat_tests)
  | inr begun ↦ grind (arith, nat_tests)
]

-- where a window of one step lies to a range of whole steps: in it, before it or behind it
unsplit-step : (step from to first last : ℕ) → 0 < step → from % step ≡ 0 → (to + 1) % step ≡ 0 → first / step ≡ last / step →
    (not (nat_le from first && nat_le last to) && not (nat_lt last from || nat_lt to first)) ≡ false
unsplit-step step from to first last some start end same =
    let low = boundary-is from step start in
    let high = boundary-is (to + 1) step end in
    let first_low = div-mul-le_self first step in
    let last_high : last < first / step * step + step = rw same (lt-div-mul-add {a = last} {b = step} some) in
    elim (cases_lt (first / step) (from / step)) [
      | inl before ↦
          (let more = step-more (first / step) (from / step) step before in
          let out : last < from = omega arith in
          grind (arith, nat_tests))
      | inr after ↦ elim (cases_lt (first / step) ((to + 1) / step)) [
        | inl inside ↦
            (let more = step-more (first / step) ((to + 1) / step) step inside in
            let begin = mul-le-mul_right {m = from / step} {n = first / step} step after in
            let one : from ≤ first = omega arith in
            let other : last ≤ to = omega arith in
            grind (arith, nat_tests))
        | inr behind ↦
            (let more = mul-le-mul_right {m = (to + 1) / step} {n = first / step} step behind in
            let out : to < first = omega arith in
            grind (arith, nat_tests))
      ]
    ]

-- no window ends after the newest time
abbrev AllEndBy : ℕ → List Window → Type 0
AllEndBy to [] = Unit
AllEndBy to (w ∷ ws) = (w.summary.t_last ≤ to) × AllEndBy to ws

AllEndBy-newest : (first time to : ℕ) (ws : List Window) → StandFrom first time ws → IfSome (newest_time ws) (λ t. t ≤ to) → AllEndBy to ws
AllEndBy-newest first time to [] stands newest = tt
AllEndBy-newest first time to (w ∷ []) stands newest = (newest, tt)
AllEndBy-newest first time to (w ∷ v ∷ vs) stands newest =
    let behind = AllEndBy-newest (first + w.summary.count) (w.summary.t_last + 1) to (v ∷ vs) stands.3 newest in
    let possible = stands.3.1 in
    (omega (arith, behind.0, stands.3.2, possible.times, possible.count_low), behind)

-- whether a window ends by then where a range isn't of whole steps to its end
abbrev EndsBy : ℕ → ℕ → ℕ → Type 0
EndsBy step to last = ((to + 1) % step ≡ 0) ⊎ (last ≤ to)

abbrev AllEnd : ℕ → ℕ → List Window → Type 0
AllEnd step to ws = All (λ w. EndsBy step to w.summary.t_last) ws

AllEnd-by : (step to : ℕ) (ws : List Window) → AllEndBy to ws → AllEnd step to ws
AllEnd-by step to [] all = All-nil (λ w. EndsBy step to w.summary.t_last)
AllEnd-by step to (w ∷ ws) all = All-cons (λ w. EndsBy step to w.summary.t_last) w ws (inr all.0) (AllEnd-by step to ws all.1)

AllEnd-whole : (step to : ℕ) (ws : List Window) → (to + 1) % step ≡ 0 → AllEnd step to ws
AllEnd-whole step to [] end = All-nil (λ w. EndsBy step to w.summary.t_last)
AllEnd-whole step to (w ∷ ws) end = All-cons (λ w. EndsBy step to w.summary.t_last) w ws (inl end) (AllEnd-whole step to ws end)

AllEnd-range : (step from to : ℕ) (ws : List Window) → AreWindows ws → AreWholeSteps step (newest_time ws) from to → AllEnd step to ws
AllEnd-range step from to ws stand whole = elim whole.end [
  | inl end ↦ AllEnd-whole step to ws end
  | inr late ↦ AllEnd-by step to ws (AllEndBy-newest 1 0 to ws stand.stand late)
]

unsplit-window : (step from to : ℕ) (w : Window) → 0 < step → from % step ≡ 0 → EndsBy step to w.summary.t_last → IsInStep step w →
    is_split from to w ≡ false
unsplit-window step from to w some start end inside =
    let same : w.summary.t_first / step ≡ w.summary.t_last / step =
    sym (step_of-quotient step w.summary.t_first) ∙ eqb-true _ _ inside ∙ step_of-quotient step w.summary.t_last in
    elim end [
      | inl boundary ↦ unsplit-step step from to w.summary.t_first w.summary.t_last some start boundary same
      | inr reached ↦ unsplit-reached step from to w.summary.t_first w.summary.t_last some start reached same
    ]

unsplit-windows : (step from to : ℕ) (ws : List Window) → 0 < step → from % step ≡ 0 → AllEnd step to ws → All (IsInStep step) ws →
    All (λ w. is_split from to w ≡ false) ws
unsplit-windows step from to [] some start ends all = All-nil (λ w. is_split from to w ≡ false)
unsplit-windows step from to (w ∷ ws) some start ends all =
    let E : Window → Type 0 = λ w. EndsBy step to w.summary.t_last in
    All-cons (λ w. is_split from to w ≡ false) w ws
    (unsplit-window step from to w some start (All-head E w ws ends) (All-head (IsInStep step) w ws all))
    (unsplit-windows step from to ws some start (All-tail E w ws ends) (All-tail (IsInStep step) w ws all))

filter-none : (from to : ℕ) (ws : List Window) → All (λ w. is_split from to w ≡ false) ws → filter (is_split from to) ws ≡ []
filter-none from to [] none = refl
filter-none from to (w ∷ ws) none =
    let first = All-head (λ w. is_split from to w ≡ false) w ws none in
    rw first (filter-none from to ws (All-tail (λ w. is_split from to w ≡ false) w ws none))

-- a step that a target has isn't 0
step-some : (s : Stream) (step : ℕ) → IsStream s → s.params.within ≡ Some step → 0 < step
step-some s step sound within =
    let target = rw within at sound.target in
    grind (arith, nat_tests)

pub whole-windows : (s : Stream) (step from to : ℕ) → IsStream s → s.params.within ≡ Some step →
    AreWholeSteps step (newest_time s.windows) from to → All (λ w. is_split from to w ≡ false) s.windows
whole-windows s step from to sound within whole =
    unsplit-windows step from to s.windows (step-some s step sound within) whole.start (AllEnd-range step from to s.windows sound.windows whole)
    (subst (λ k. All (IsInStep k) s.windows) (ap step_number within) sound.steps)

-- no window ends after the last time of all
newest-possible : (first time : ℕ) (ws : List Window) → StandFrom first time ws → IfSome (newest_time ws) (λ t. t ≤ LAST_TIME)
newest-possible first time [] stands = tt
newest-possible first time (w ∷ []) stands = (let possible = stands.1 in possible.last)
newest-possible first time (w ∷ v ∷ vs) stands = newest-possible (first + w.summary.count) (w.summary.t_last + 1) (v ∷ vs) stands.3

pub whole-to_the_last : (s : Stream) (step from : ℕ) → IsStream s → from % step ≡ 0 → AreWholeSteps step (newest_time s.windows) from LAST_TIME
whole-to_the_last s step from sound start = record { start = start; end = inr (newest-possible 1 0 s.windows sound.windows.stand) }

unsplit-choice : (o : Option Stream) (from to step : ℕ) → ((s : Stream) → o ≡ Some s → IsStream s) → IfSome o (λ s. s.params.within ≡ Some step) →
    AreWholeSteps step (reached_in o) from to → option_map_or (λ (s : Stream). filter (is_split from to) s.windows) o [] ≡ []
unsplit-choice None from to step sound within whole = refl
unsplit-choice (Some s) from to step sound within whole =
    filter-none from to s.windows (whole-windows s step from to (sound s refl) within whole)

pub whole-unsplit : (streams : List Stream) (query : Query) (step : ℕ) → IsState streams → IsWithin step streams query.name →
    AreWholeSteps step (reached_by streams query.name) query.from query.to → split_by streams query ≡ []
whole-unsplit streams query step state within whole =
    unsplit-choice (stream_named query.name streams) query.from query.to step
    (λ s found. All-named IsStream query.name streams s state.each found) within whole

pub whole-exact : (streams : List Stream) (query : Query) (step : ℕ) (outcome : Outcome) → IsState streams →
    IsWithin step streams query.name → AreWholeSteps step (reached_by streams query.name) query.from query.to → outcome_of streams query ≡ Some outcome →
    IsExactOutcome outcome
whole-exact streams query step outcome state within whole answered =
    answer-exact streams query outcome answered (whole-unsplit streams query step state within whole)

-- the boundaries of a series of whole steps
boundary-row : (step from rows row : ℕ) → from % step ≡ 0 → rows % step ≡ 0 → (from + row * rows) % step ≡ 0
boundary-row step from rows row start every =
    let is = boundary-is rows step every in
    let product : row * rows ≡ row * (rows / step) * step = ap (λ n. row * n) is ∙ sym (mul_assoc row (rows / step) step) in
    ap (λ n. (from + n) % step) product ∙ add-mul-mod_self_right from (row * (rows / step)) step ∙ start

-- a range ends before a boundary, or no time is newer than its last
abbrev Ends : ℕ → Option ℕ → ℕ → Type 0
Ends step newest to = ((to + 1) % step ≡ 0) ⊎ IfSome newest (λ t. t ≤ to)

-- the last time of a row is the last before a boundary, or that of the whole range
boundary-end : (step : ℕ) (newest : Option ℕ) (to next : ℕ) → 0 < next → next % step ≡ 0 → Ends step newest to → Ends step newest (min (next - 1) to)
boundary-end step newest to next some row end = elim (cases_lt to (next - 1)) [
  | inl short ↦ (let is : min (next - 1) to ≡ to = omega arith in subst (Ends step newest) (sym is) end)
  | inr long ↦ (let is : min (next - 1) to + 1 ≡ next = omega arith in inl (ap (λ n. n % step) is ∙ row))
]

whole-row : (step : ℕ) (newest : Option ℕ) (series : Series) (row : ℕ) → HasWholeRows step newest series →
    AreWholeSteps step newest (row_query series row).from (row_query series row).to
whole-row step newest series row whole = record {
  start = boundary-row step series.from series.step row whole.range.start whole.rows;
  end =
      (let some = whole.some in
      boundary-end step newest series.to (row_start series (row + 1)) (omega (arith, add-mul row 1 series.step))
      (boundary-row step series.from series.step (row + 1) whole.range.start whole.rows) whole.range.end);
}

pub whole-rows : (streams : List Stream) (series : Series) (step row : ℕ) (outcome : Outcome) → IsState streams →
    IsWithin step streams series.name → HasWholeRows step (reached_by streams series.name) series →
    outcome_of streams (row_query series row) ≡ Some outcome → IsExactOutcome outcome
whole-rows streams series step row outcome state within whole answered =
    whole-exact streams (row_query series row) step outcome state within
    (whole-row step (reached_by streams series.name) series row whole) answered
