-- What words of digits spell.
use Rattle.std.proofs.Common.{◌≡◌, ℕ, suc, ◌+◌, ◌*◌, ◌-◌, ◌^◌, ◌<◌, ◌≤◌, true, false, List, ◌∷◌, length, take, get_or, Ok, arith, rules, refl, ap, ◌∙◌}
use Rattle.std.proofs.lemmas.Bool.Decides.{nat_tests}
use Rattle.std.proofs.lemmas.Int.Digits.{digits_value_more}
use Rattle.std.proofs.lemmas.Str.Parse.{IsNumeralModel, numerals_by_value, digit_at, digits_value_short, digits_value-take-le}
use Rattle.std.proofs.lemmas.Fmt.{decimal_is_IsNumeral}
use Rattle.std.specs.Prelude.{ℤ, pos, negsuc, neg_ℤ, FitsSigned}
use Rattle.std.specs.Char.{digit_value, is_ascii_digit}
use Rattle.std.specs.Int.{w64}
use Rattle.std.specs.List.{list_all}
use Rattle.std.specs.Fmt.{decimal, signed_decimal}
use Rattle.std.specs.Str.Parse.{AllDigits, digits_value, starts_with_minus}
use Rattle.ss_fields.specs.Words.{is_number, number_of, number_up_to, unsigned_of, signed_of}

-- std's lemmas on digits speak of this crate's words
digits_as_number : IsNumeralModel (λ ds. list_all is_ascii_digit ds ≡ true) (digits_value 10)
digits_as_number = numerals_by_value _ (search rules)

-- a number is made of digits, of one at least
pub AllDigits-from_is_number : (word : List ℕ) → is_number word ≡ true → (0 < length word) × AllDigits 10 word
unfolding is_number
AllDigits-from_is_number word digits =
    let all : list_all is_ascii_digit word ≡ true = grind (arith, nat_tests) in
    (grind (arith, nat_tests), digits_as_number.to word all)

-- one or more digits are a number
pub is_number-from_AllDigits : (word : List ℕ) → 0 < length word → AllDigits 10 word → is_number word ≡ true
unfolding is_number
is_number-from_AllDigits word some digits =
    let all = digits_as_number.from word digits in
    grind (arith, nat_tests)

-- a word of at most 18 digits is below 10 ^ 18
pub number_of-below : (word : List ℕ) → is_number word ≡ true → length word ≤ 18 → number_of word < 10 ^ 18
unfolding number_of
number_of-below word digits short =
    digits_value_short digits_as_number word 18 (digits_as_number.from word (AllDigits-from_is_number word digits).1) short

-- one more digit
pub number_of-take_more : (word : List ℕ) (i : ℕ) → AllDigits 10 word → i < length word →
    number_of (take (i + 1) word) ≡ number_of (take i word) * 10 + (get_or word i 0 - 48)
unfolding number_of
number_of-take_more word i digits inside =
    let range = digit_at word i digits inside in
    let digit : digit_value (get_or word i 0) ≡ get_or word i 0 - 48 = grind (arith, nat_tests) in
    digits_value_more 10 word i inside ∙ ap (λ d. number_of (take i word) * 10 + d) digit

-- more digits make no less
pub number_of-take-le : (word : List ℕ) (i : ℕ) → number_of (take i word) ≤ number_of word
unfolding number_of
number_of-take-le word i = digits_value-take-le 10 word i (omega arith)

-- a number that is small enough is read
pub number_up_to-number : (most : ℕ) (word : List ℕ) → is_number word ≡ true → number_of word ≤ most → number_up_to most word ≡ Ok (number_of word)
unfolding number_up_to
number_up_to-number most word digits small = grind (arith, nat_tests)

-- a number that a `u64` holds is read
pub unsigned_of-number : (word : List ℕ) → is_number word ≡ true → number_of word < 2 ^ 64 → unsigned_of word ≡ Ok (number_of word)
unfolding unsigned_of
unsigned_of-number word digits small = number_up_to-number (2 ^ 64 - 1) word digits (omega arith)

-- a number that an `i64` holds is read
pub signed_of-number : (word : List ℕ) → is_number word ≡ true → number_of word < 2 ^ 63 → signed_of word ≡ Ok (pos (number_of word))
unfolding signed_of
signed_of-number word digits small =
    let all = AllDigits-from_is_number word digits in
    let first = digit_at word 0 all.1 all.0 in
    let plain : starts_with_minus word ≡ false = grind (arith, nat_tests) in
    rw (plain, number_up_to-number (2 ^ 63 - 1) word digits (omega arith)) refl

-- so is one after a '-'
pub signed_of-minus : (word : List ℕ) → is_number word ≡ true → number_of word ≤ 2 ^ 63 → signed_of (45 ∷ word) ≡ Ok (neg_ℤ (pos (number_of word)))
unfolding signed_of
signed_of-minus word digits small = rw (number_up_to-number (2 ^ 63) word digits small) refl

-- a printed number is a number
pub is_number-decimal : (n : ℕ) → n < 2 ^ 64 → is_number (decimal n) ≡ true
is_number-decimal n fits =
    let numeral = decimal_is_IsNumeral n fits in
    is_number-from_AllDigits (decimal n) numeral.0.0 numeral.0.1

-- a printed number spells itself
pub number_of-decimal : (n : ℕ) → n < 2 ^ 64 → number_of (decimal n) ≡ n
unfolding number_of
number_of-decimal n fits = (decimal_is_IsNumeral n fits).1

-- a printed `u64` reads back
pub unsigned_of-decimal : (n : ℕ) → n < 2 ^ 64 → unsigned_of (decimal n) ≡ Ok n
unsigned_of-decimal n fits =
    let same = number_of-decimal n fits in
    unsigned_of-number (decimal n) (is_number-decimal n fits) (omega arith) ∙ ap Ok same

-- a printed `i64` reads back
pub signed_of-signed_decimal : (z : ℤ) → FitsSigned w64 z → signed_of (signed_decimal z) ≡ Ok z
signed_of-signed_decimal (pos n) fits =
    let small : n < 2 ^ 63 = fits.sfits in
    let same = number_of-decimal n (omega arith) in
    signed_of-number (decimal n) (is_number-decimal n (omega arith)) (omega arith) ∙ ap (λ m. Ok (pos m)) same
signed_of-signed_decimal (negsuc n) fits =
    let small : n < 2 ^ 63 = fits.sfits in
    let same = number_of-decimal (suc n) (omega arith) in
    signed_of-minus (decimal (suc n)) (is_number-decimal (suc n) (omega arith)) (omega arith) ∙ ap (λ m. Ok (neg_ℤ (pos m))) same

-- what a number that was found says of its digits, for a search
pub ruleset number_digits = AllDigits-from_is_number
