-- Which parameters a target has.
use Rattle.std.specs.Prelude.{ℕ, zero, suc, Bool, true, ◌&&◌, nat_le, Option, Some, None}
use Rattle.ss_catalog.specs.declared.params.TheConstants.{GREATEST_BASE, GREATEST_POWER, GREATEST_WIDENING, GREATEST_SCALE}
use Rattle.ss_catalog.specs.declared.params.Family.{Family}
use Rattle.ss_catalog.specs.declared.params.Family.TheVariants.{Exp, Power}
use Rattle.ss_catalog.specs.declared.params.Params.{Params}

-- the parameters of each family, without a step
abbrev pub exp : ℕ → ℕ → ℕ → Params
exp b r s = record { family = Exp b r s; within = None }

abbrev pub power : ℕ → ℕ → ℕ → ℕ → Params
power p q r s = record { family = Power p q r s; within = None }

-- a step as a number, 0 for none
abbrev pub step_number : Option ℕ → ℕ
step_number None = 0
step_number (Some step) = step

-- the step that such a number stands for
abbrev pub step_for : ℕ → Option ℕ
step_for zero = None
step_for (suc n) = Some (suc n)

-- a number of windows, or a length, that a first group can have
abbrev pub is_scale : ℕ → Bool
is_scale n = nat_le 1 n && nat_le n GREATEST_SCALE

-- windows can keep to this step
abbrev pub is_step : Option ℕ → Bool
is_step None = true
is_step (Some step) = nat_le 1 step

-- a target has the lengths of this family
abbrev pub is_family : Family → Bool
is_family (Exp b r s) = nat_le 2 b && nat_le b GREATEST_BASE && is_scale r && is_scale s
is_family (Power p q r s) = nat_le 1 p && nat_le p GREATEST_POWER && nat_le q GREATEST_WIDENING && is_scale r && is_scale s

-- the parameters are those of a target
abbrev pub in_range : Params → Bool
in_range params = is_step params.within && is_family params.family
