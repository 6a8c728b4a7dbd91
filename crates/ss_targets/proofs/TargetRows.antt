-- Worked rows, each computed.
use Rattle.std.proofs.Common.{◌≡◌, ℕ, true, false, [], ◌∷◌, map, refl, None, Some}
use Rattle.ss_catalog.specs.Params.{exp as Exp, power as Power}
use Rattle.ss_targets.specs.Windowing.{window_index}
use Rattle.ss_targets.specs.Power.{power_length}
use Rattle.ss_targets.specs.Lengths.{has_target, lengths_of}
use Rattle.ss_targets.specs.Rule.{in_step, may_be_one, rule_of, without_step}
use Rattle.ss_catalog.specs.declared.params.Params.{Params}

targets-exp : map has_target (Exp 2 1 1 ∷ Exp 16 65536 65536 ∷ Exp 1 1 1 ∷ Exp 17 1 1 ∷ Exp 2 0 1 ∷ Exp 2 1 65537 ∷ [])
    ≡ true ∷ true ∷ false ∷ false ∷ false ∷ false ∷ []
targets-exp = refl

targets-power : map has_target (Power 1 0 1 1 ∷ Power 4 3 65536 65536 ∷ Power 0 0 1 1 ∷ Power 5 0 1 1 ∷ Power 1 4 1 1 ∷ Power 1 0 0 1 ∷ Power 1 0 1 65537 ∷ [])
    ≡ true ∷ true ∷ false ∷ false ∷ false ∷ false ∷ false ∷ []
targets-power = refl

lengths-tripling_pairs : map (lengths_of (Exp 3 2 1)) (0 ∷ 1 ∷ 2 ∷ 3 ∷ 4 ∷ []) ≡ 1 ∷ 1 ∷ 3 ∷ 3 ∷ 9 ∷ []
lengths-tripling_pairs = refl

lengths-power : map (lengths_of (Power 2 1 1 1)) (0 ∷ 1 ∷ 2 ∷ 3 ∷ 4 ∷ []) ≡ 1 ∷ 2 ∷ 2 ∷ 3 ∷ 3 ∷ []
unfolding power_length window_index
lengths-power = refl

targets-within : map (λ within. has_target (let p : Params = record { family = (Exp 2 1 1).family; within = within } in p)) (None ∷ Some 0 ∷ Some 1 ∷ [])
    ≡ true ∷ false ∷ true ∷ []
targets-within = refl

-- 59 lies in the step before that of 60, and 119 in the same
steps-of_60 : map (λ (p : ℕ × ℕ). in_step 60 p.0 p.1) ((0, 59) ∷ (59, 60) ∷ (60, 119) ∷ (10, 130) ∷ []) ≡ true ∷ false ∷ true ∷ false ∷ []
steps-of_60 = refl

steps-none : in_step (rule_of (Exp 2 1 1)).step 0 4611686018427387904 ≡ true
steps-none = refl

rules-step : map (λ within. (rule_of (let p : Params = record { family = (Exp 2 1 1).family; within = within } in p)).step)
    (None ∷ Some 1 ∷ Some 4294967295 ∷ []) ≡ 0 ∷ 1 ∷ 4294967295 ∷ []
rules-step = refl

rules-lengths : map (rule_of (let p : Params = record { family = (Exp 3 2 1).family; within = Some 60 } in p)).lengths (0 ∷ 1 ∷ 2 ∷ 3 ∷ 4 ∷ [])
    ≡ 1 ∷ 1 ∷ 3 ∷ 3 ∷ 9 ∷ []
rules-lengths = refl

-- within minutes
abbrev minutes : Params
minutes = record { family = (Exp 2 1 1).family; within = Some 60 }

-- at the seventh value 5 and 6 lie in one target window, and 6 and 7 don't; they may be one if their times lie in one step too
rules-may_be_one : map (λ (e : ℕ × ℕ × ℕ × ℕ). may_be_one (rule_of minutes) e.0 e.1 7 e.2 e.3)
    ((5, 6, 50, 59) ∷ (5, 6, 50, 60) ∷ (6, 7, 50, 59) ∷ (6, 7, 50, 60) ∷ []) ≡ true ∷ false ∷ false ∷ false ∷ []
unfolding window_index
rules-may_be_one = refl

rules-without_step : may_be_one (without_step (lengths_of (Exp 2 1 1))) 5 6 7 50 60 ≡ true
unfolding window_index
rules-without_step = refl
