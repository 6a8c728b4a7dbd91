-- Which parameters have a target, and its window lengths.
use Rattle.std.specs.Prelude.{ℕ, Bool}
use Rattle.ss_catalog.specs.Params.{in_range}
use Rattle.ss_catalog.specs.declared.params.Params.{Params}
use Rattle.ss_catalog.specs.declared.params.Family.{Family}
use Rattle.ss_catalog.specs.declared.params.Family.TheVariants.{Exp, Power}
use Rattle.ss_targets.specs.Exp.{exp_length}
use Rattle.ss_targets.specs.Power.{power_length}

-- whether some parameters have a target: those in their ranges, of either family
abbrev pub has_target : Params → Bool
has_target params = in_range params

-- the window lengths of a family
abbrev pub family_lengths : Family → ℕ → ℕ
family_lengths (Exp b r s) = exp_length b r s
family_lengths (Power p q r s) = power_length p q r s

-- the window lengths of the target of some parameters
abbrev pub lengths_of : Params → ℕ → ℕ
lengths_of params = family_lengths params.family
