-- The lengths of parameters that have a target.
use Rattle.std.proofs.Common.{ℕ, IsTrue, arith}
use Rattle.std.proofs.lemmas.Bool.{and_parts}
use Rattle.std.proofs.lemmas.Bool.Decides.{nat_tests}
use Rattle.ss_catalog.specs.Params.{is_family, is_step}
use Rattle.ss_catalog.specs.declared.params.Params.{Params}
use Rattle.ss_catalog.specs.declared.params.Family.{Family}
use Rattle.ss_catalog.specs.declared.params.Family.TheVariants.{Exp, Power}
use Rattle.ss_targets.specs.Exp.{IsExp}
use Rattle.ss_targets.specs.ExpLaws.{exp_length-positive, exp_length-never_falls}
use Rattle.ss_targets.specs.Windowing.{ArePositive, NeverFall}
use Rattle.ss_targets.specs.Power.{IsPower}
use Rattle.ss_targets.specs.PowerLaws.{power_length-positive, power_length-never_falls}
use Rattle.ss_targets.specs.Lengths.{family_lengths, has_target, lengths_of}

pub IsExp-in_range : (b r s : ℕ) → IsTrue (is_family (Exp b r s)) → IsExp b r s
IsExp-in_range b r s inside = grind (arith, nat_tests)

pub IsPower-in_range : (p q r s : ℕ) → IsTrue (is_family (Power p q r s)) → IsPower p q r s
IsPower-in_range p q r s inside = grind (arith, nat_tests)

family-positive : (family : Family) → IsTrue (is_family family) → ArePositive (family_lengths family)
family-positive (Exp b r s) has i = exp_length-positive (IsExp-in_range b r s has) i
family-positive (Power p q r s) has i = power_length-positive (IsPower-in_range p q r s has) i

family-never_falls : (family : Family) → IsTrue (is_family family) → NeverFall (family_lengths family)
family-never_falls (Exp b r s) has i = exp_length-never_falls (IsExp-in_range b r s has) i
family-never_falls (Power p q r s) has i = power_length-never_falls (IsPower-in_range p q r s has) i

pub lengths_of-positive : (params : Params) → IsTrue (has_target params) → ArePositive (lengths_of params)
lengths_of-positive params has = family-positive params.family (and_parts (is_step params.within) (is_family params.family) has).1

pub lengths_of-never_fall : (params : Params) → IsTrue (has_target params) → NeverFall (lengths_of params)
lengths_of-never_fall params has = family-never_falls params.family (and_parts (is_step params.within) (is_family params.family) has).1
