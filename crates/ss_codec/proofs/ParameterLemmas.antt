-- The parameters of a target are read from where they stand.
use Rattle.std.specs.Prelude.{◌≡◌, ℕ, zero, suc, ◌+◌, ◌^◌, ◌<◌, true, ◌&&◌, Bool, false, List, slice_index, Option, Some, None}
use Rattle.std.proofs.Common.{arith, refl, lit<}
use Rattle.std.proofs.lemmas.Bool.Decides.{nat_tests}
use Rattle.ss_fields.specs.Fields.{number_at}
use Rattle.ss_catalog.specs.Params.{in_range, is_family, is_step, step_for, step_number}
use Rattle.ss_catalog.specs.declared.params.Family.{Family}
use Rattle.ss_catalog.specs.declared.params.Family.TheVariants.{Exp, Power}
use Rattle.ss_catalog.specs.declared.params.Params.{Params}
use Rattle.ss_codec.specs.Record.{family, parameters}
use Rattle.ss_codec.specs.Decoded.{family_in, params_in}

-- parameters in range fit their fields
pub record AreSmall (params : Family) : Type 0 where
  pub first : (parameters params).0 < 2 ^ 32
  pub second : (parameters params).1 < 2 ^ 32
  pub third : (parameters params).2 < 2 ^ 32
  pub fourth : (parameters params).3 < 2 ^ 32

AreSmall-is_family : (params : Family) → is_family params ≡ true → AreSmall params
AreSmall-is_family (Exp b r s) ranged = record {
  first = grind (arith, nat_tests);
  second = grind (arith, nat_tests);
  third = grind (arith, nat_tests);
  fourth = lit< tt;
}
AreSmall-is_family (Power p q r s) ranged = record {
  first = grind (arith, nat_tests);
  second = grind (arith, nat_tests);
  third = grind (arith, nat_tests);
  fourth = grind (arith, nat_tests);
}

both_tests : (a b : Bool) → (a && b) ≡ true → (a ≡ true) × (b ≡ true)
both_tests true true all = (refl, refl)
both_tests true false all = absurd cc
both_tests false b all = absurd cc

pub AreSmall-in_range : (params : Params) → in_range params ≡ true → AreSmall params.family
AreSmall-in_range params ranged = AreSmall-is_family params.family (both_tests (is_step params.within) (is_family params.family) ranged).1

-- the step whose number stands in the bytes is read from there
step_for-number : (within : Option ℕ) → is_step within ≡ true → step_for (step_number within) ≡ within
step_for-number None step = refl
step_for-number (Some zero) step = absurd cc
step_for-number (Some (suc n)) step = refl

pub step_for-in_range : (params : Params) → in_range params ≡ true → step_for (step_number params.within) ≡ params.within
step_for-in_range params ranged = step_for-number params.within (both_tests (is_step params.within) (is_family params.family) ranged).0

family_in-numbers : (params : Family) (place : ℕ) (bytes : List ℕ) → slice_index bytes 1 ≡ family params
    → number_at 4 bytes place ≡ (parameters params).0 → number_at 4 bytes (place + 4) ≡ (parameters params).1
    → number_at 4 bytes (place + 8) ≡ (parameters params).2 → number_at 4 bytes (place + 12) ≡ (parameters params).3 → family_in place bytes ≡ params
family_in-numbers (Exp b r s) place bytes kind first second third fourth = rw (kind, first, second, third) refl
family_in-numbers (Power p q r s) place bytes kind first second third fourth = rw (kind, first, second, third, fourth) refl

-- the parameters in range whose family, numbers and step stand in the bytes are read from there
pub params_in-numbers : (params : Params) (place step : ℕ) (bytes : List ℕ) → in_range params ≡ true → slice_index bytes 1 ≡ family params.family
    → number_at 4 bytes place ≡ (parameters params.family).0 → number_at 4 bytes (place + 4) ≡ (parameters params.family).1
    → number_at 4 bytes (place + 8) ≡ (parameters params.family).2 → number_at 4 bytes (place + 12) ≡ (parameters params.family).3
    → number_at 4 bytes step ≡ step_number params.within → params_in place step bytes ≡ params
unfolding params_in
params_in-numbers params place step bytes ranged kind first second third fourth number =
    let family_is = family_in-numbers params.family place bytes kind first second third fourth in
    let within_is : step_for (number_at 4 bytes step) ≡ params.within = rw number (step_for-in_range params ranged) in
    λ i. record { family = family_is i; within = within_is i }
