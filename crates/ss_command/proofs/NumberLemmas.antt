-- Numbers up to a limit.
use Rattle.std.proofs.Common.{◌≡◌, ℕ, ◌<◌, ◌≤◌, ◌^◌, List, Ok, Err, arith, ⊎_elim}
use Rattle.std.proofs.lemmas.Bool.{cases_Bool}
use Rattle.std.proofs.lemmas.Bool.Decides.{nat_tests}
use Rattle.ss_fields.specs.Words.{is_number, number_up_to, unsigned_of}
use Rattle.ss_fields.specs.declared.number_error.NumberError.{NumberError}
use Rattle.ss_catalog.specs.declared.refusal.Refusal.TheVariants as refusals
use Rattle.ss_command.specs.Grammar.{or_number}

-- a number that was read, and is within the limit
pub or_number-Ok : (most n : ℕ) (word : List ℕ) → unsigned_of word ≡ Ok n → n ≤ most → or_number (number_up_to most word) ≡ Ok n
unfolding unsigned_of number_up_to
or_number-Ok most n word read small =
    ⊎_elim
    (λ yes. grind (arith, nat_tests))
    (λ no. grind (arith, nat_tests))
    (cases_Bool (is_number word))

-- a number that was read, and is past the limit
pub or_number-past : (most n : ℕ) (word : List ℕ) → unsigned_of word ≡ Ok n → most < n → or_number (number_up_to most word) ≡ Err refusals.Number
unfolding unsigned_of number_up_to
or_number-past most n word read past =
    ⊎_elim
    (λ yes. grind (arith, nat_tests))
    (λ no. grind (arith, nat_tests))
    (cases_Bool (is_number word))

-- no number of 64 bits
pub or_number-Err : (most : ℕ) (word : List ℕ) (e : NumberError) → unsigned_of word ≡ Err e → most < 2 ^ 64 →
    or_number (number_up_to most word) ≡ Err refusals.Number
unfolding unsigned_of number_up_to
or_number-Err most word e read small =
    ⊎_elim
    (λ yes. grind (arith, nat_tests))
    (λ no. grind (arith, nat_tests))
    (cases_Bool (is_number word))
