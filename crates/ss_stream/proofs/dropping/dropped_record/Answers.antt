use Rattle.ss_stream.proofs.Common.{◌≡◌, ◌∙◌, ℕ, zero, suc, ap, arith, refl, true, nat_tests, is_valid-IsStream, params_of}
use Rattle.ss_catalog.specs.Params.{in_range, is_family, is_step, step_for}
use Rattle.ss_catalog.specs.declared.params.Family.TheVariants as families
use Rattle.ss_targets.specs.Power.{IsPower}
use Rattle.ss_targets.specs.Targets.{family_of}
use Rattle.ss_targets.specs.declared.target.Target.{Target}
use Rattle.ss_targets.specs.declared.target.Windows.{Windows}
use Rattle.ss_targets.specs.declared.target.Windows.TheVariants.{Exp, Power}
use Rattle.ss_targets.specs.Exp.{IsExp}
use Rattle.ss_stream.proofs.dropping.dropped_record.Goals as goal

-- the parameters of a target are in their ranges
is_family-exp : (b r s : ℕ) → IsExp b r s → is_family (families.Exp b r s) ≡ true
is_family-exp b r s is = grind (arith, nat_tests)

is_family-power : (p q r s : ℕ) → IsPower p q r s → is_family (families.Power p q r s) ≡ true
is_family-power p q r s is = grind (arith, nat_tests)

is_family-windows : (windows : Windows) → is_family (family_of windows) ≡ true
is_family-windows (Exp exp) = is_family-exp exp.base exp.repeat exp.scale exp.in_range
is_family-windows (Power power) = is_family-power power.power power.widening power.repeat power.scale power.in_range

is_step-for : (step : ℕ) → is_step (step_for step) ≡ true
is_step-for zero = refl
is_step-for (suc step) = grind (arith, nat_tests)

in_range-params_of : (target : Target) → in_range (params_of target) ≡ true
in_range-params_of target = rw (is_step-for target.step, is_family-windows target.windows) refl

pub returns-clause-valid : goal.returns-clause-valid
returns-clause-valid c =
    is_valid-IsStream c.number_of.result c.args.part.now.name c.params-params.result true (omega arith)
    (rw (← c.as_bytes-word.ensures.value) c.as_bytes-word.ensures.name) (ap in_range c.params-params.ensures ∙ in_range-params_of c.args.part.now.target)
    (omega (arith, c.step_number-step.ensures))
