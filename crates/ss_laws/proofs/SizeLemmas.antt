-- How many records a stream needs, and how many slots those of a history use.
use Rattle.std.specs.Prelude.{◌≡◌, ℕ, ◌+◌, ◌-◌, ◌*◌, ◌≤◌, max, List, [], ◌∷◌, ◌++◌, All, length, map, None}
use Rattle.std.proofs.Common.{ap, append_assoc, arith, refl, subst, sym, ◌∙◌}
use Rattle.ss_catalog.specs.Params.{step_number}
use Rattle.ss_landmarks.specs.Landmark.{all_values}
use Rattle.ss_laws.specs.Sizes.{NeedsAtMost, UsesFewSlots}
use Rattle.ss_model.proofs.DecayLemmas.{length-windows_met, steps_after-none}
use Rattle.ss_model.proofs.HistoryLemmas.{by_pushes}
use Rattle.ss_model.proofs.ReadLemmas.{All-state}
use Rattle.ss_model.proofs.Stretches.{taken-windows}
use Rattle.ss_model.specs.Decay.{cover, steps_met}
use Rattle.ss_model.specs.History.{Happened, values_of}
use Rattle.ss_targets.specs.Rule.{Rule, rule_of}
use Rattle.ss_model.specs.State.{records_of, state, values_in}
use Rattle.ss_model.specs.Windows.{taken, windows}
use Rattle.ss_summary.specs.Points.{Point}
use Rattle.ss_targets.specs.Lengths.{lengths_of}

-- the times of values
abbrev times : List Point → List ℕ
times values = map (λ (p : Point). p.0) values

few-windows : (rule : Rule) (values : List Point) →
    length (windows rule values) + 1 ≤ max 1 (2 * cover rule.lengths (length values) + steps_met rule.step (times values) - 1)
few-windows rule [] = omega arith
few-windows rule (p ∷ ps) = omega (arith, length-windows_met rule (p ∷ ps) (omega arith))

few-taken : (rule : Rule) (values : List Point) →
    length (windows rule values) + 1 ≤ max 1 (2 * cover rule.lengths (taken (windows rule values)) + steps_met rule.step (times values) - 1)
few-taken rule values =
    subst (λ n. length (windows rule values) + 1 ≤ max 1 (2 * cover rule.lengths n + steps_met rule.step (times values) - 1))
    (sym (taken-windows rule values)) (few-windows rule values)

pub records-few : (history : List Happened) → All (λ s. let times = map (λ (p : Point). p.0) (values_of history s.name) in
    records_of s ≤ max 1 (2 * cover (lengths_of s.params) (values_in s) + steps_met (rule_of s.params).step times - 1)
    + length s.landmarks + length (all_values s.landmarks)) (state history)
records-few history =
    All-state (λ s. let times = map (λ (p : Point). p.0) (values_of history s.name) in
    records_of s ≤ max 1 (2 * cover (lengths_of s.params) (values_in s) + steps_met (rule_of s.params).step times - 1)
    + length s.landmarks + length (all_values s.landmarks)) history
    (λ c. let few = few-taken (rule_of c.params) (values_of history c.name) in omega (arith, few))

pub steps_met-alone : (ts : List ℕ) → steps_met 0 ts ≤ 1
steps_met-alone [] = omega arith
steps_met-alone (t ∷ ts) = omega (arith, steps_after-none t ts)

pub records-alone : (history : List Happened) → All (λ s. s.params.within ≡ None → records_of s ≤
    max 1 (2 * cover (lengths_of s.params) (values_in s)) + length s.landmarks + length (all_values s.landmarks)) (state history)
records-alone history =
    All-state (λ s. s.params.within ≡ None → records_of s ≤
    max 1 (2 * cover (lengths_of s.params) (values_in s)) + length s.landmarks + length (all_values s.landmarks)) history
    (λ c none.
    let rule = rule_of c.params in
    let values = values_of history c.name in
    let few = few-taken rule values in
    let met : steps_met rule.step (times values) ≤ 1 =
    subst (λ step. steps_met step (times values) ≤ 1) (ap step_number (sym none)) (steps_met-alone (times values)) in
    omega (arith, few, met))

pub slots-few : (history : List Happened) (extent : List Happened → ℕ) (most : ℕ) → UsesFewSlots extent history → NeedsAtMost most history
    → extent history ≤ max (extent []) (most + 1)
slots-few history extent most uses needs =
    by_pushes (λ us. UsesFewSlots extent us → NeedsAtMost most us → extent us ≤ max (extent []) (most + 1))
    (λ us event before uses needs.
    let earlier = before
    (λ front back e same. uses front (back ++ event ∷ []) e (ap (λ xs. xs ++ event ∷ []) same ∙ append_assoc front (e ∷ back) (event ∷ [])))
    (λ front back e same. needs front (back ++ event ∷ []) e (ap (λ xs. xs ++ event ∷ []) same ∙ append_assoc front (e ∷ back) (event ∷ []))) in
    omega (arith, earlier, uses us [] event refl, needs us [] event refl))
    [] history (λ uses needs. omega arith) uses needs
