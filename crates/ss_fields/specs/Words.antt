-- Words that spell numbers.
use Rattle.std.specs.Prelude.{ℕ, ◌-◌, ◌^◌, Bool, ◌&&◌, List, length, drop, nat_lt, nat_le, if◌then◌else◌, Result, Ok, Err, ℤ, pos, neg_ℤ}
use Rattle.std.specs.Char.{is_ascii_digit}
use Rattle.std.specs.List.{list_all}
use Rattle.std.specs.Str.Parse.{digits_value, starts_with_minus}
use Rattle.ss_fields.specs.declared.number_error.NumberError.{NumberError}
use Rattle.ss_fields.specs.declared.number_error.NumberError.TheVariants.{NotNumber, OutOfRange}

-- one or more digits, and nothing else
unfoldable pub is_number : List ℕ → Bool
is_number word = nat_lt 0 (length word) && list_all is_ascii_digit word

-- the number that digits spell
unfoldable pub number_of : List ℕ → ℕ
number_of word = digits_value 10 word

-- the number that a word spells, where it is at most `most`
unfoldable pub number_up_to : ℕ → List ℕ → Result ℕ NumberError
number_up_to most word =
    if is_number word then (if nat_le (number_of word) most then Ok (number_of word) else Err OutOfRange) else Err NotNumber

-- a word read as a `u64`
unfoldable pub unsigned_of : List ℕ → Result ℕ NumberError
unsigned_of word = number_up_to (2 ^ 64 - 1) word

-- what was read, as a signed number at or above zero
abbrev pub as_positive : Result ℕ NumberError → Result ℤ NumberError
as_positive (Ok n) = Ok (pos n)
as_positive (Err e) = Err e

-- what was read, as a signed number at or below zero
abbrev pub as_negative : Result ℕ NumberError → Result ℤ NumberError
as_negative (Ok n) = Ok (neg_ℤ (pos n))
as_negative (Err e) = Err e

-- a word read as an `i64`, where '-' may stand before the digits
unfoldable pub signed_of : List ℕ → Result ℤ NumberError
signed_of word =
    if starts_with_minus word then as_negative (number_up_to (2 ^ 63) (drop 1 word)) else as_positive (number_up_to (2 ^ 63 - 1) word)
