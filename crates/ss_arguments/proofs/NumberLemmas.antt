-- The numbers among the arguments.
use Rattle.std.proofs.Common.{◌≡◌, ℕ, ◌-◌, ◌^◌, ◌≤◌, true, List, [], ◌∷◌, Option, Some, None, arith, eqb-true}
use Rattle.std.specs.Prelude.{nat_le, if◌then◌else◌}
use Rattle.std.proofs.lemmas.Bool.Decides.{nat_tests}
use Rattle.std.specs.Str.Parse.{starts_with_minus}
use Rattle.ss_fields.specs.Words.{is_number, number_up_to}
use Rattle.ss_generator.specs.declared.TheConstants.{MOST_COUNT}
use Rattle.ss_arguments.specs.Modes.{count_of, number_between, seed_of}

-- a number that was read, where it is in a range
abbrev pub in_range : ℕ → ℕ → Option ℕ → Option ℕ
in_range least most None = None
in_range least most (Some n) = if nat_le least n then (if nat_le n most then Some n else None) else None

-- a number that is read in a wider range
pub number_between-narrower : (least most bound : ℕ) (word : List ℕ) → most ≤ bound →
    number_between least most word ≡ in_range least most (number_between 0 bound word)
unfolding number_between number_up_to
number_between-narrower least most bound word wider = grind (arith, nat_tests)

-- a count is a number that a seed may be too
pub count_by_number : (word : List ℕ) → count_of word ≡ in_range 1 MOST_COUNT (seed_of word)
count_by_number word = number_between-narrower 1 MOST_COUNT (2 ^ 64 - 1) word (omega arith)

-- what is read is in the range
pub number_between-in_range : (least most : ℕ) (word : List ℕ) (n : ℕ) → number_between least most word ≡ Some n → (least ≤ n) × (n ≤ most)
unfolding number_between number_up_to
number_between-in_range least most word n e = grind (arith, nat_tests)

-- a word that begins with `-` is no number
pub number_between-option : (least most : ℕ) (word : List ℕ) → starts_with_minus word ≡ true → number_between least most word ≡ None
unfolding number_between number_up_to is_number
number_between-option least most [] option = cc
number_between-option least most (x ∷ xs) option =
    let hyphen : x ≡ 45 = eqb-true _ _ option in
    rw hyphen (grind (arith, nat_tests))
