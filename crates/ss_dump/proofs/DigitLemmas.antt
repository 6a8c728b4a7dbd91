-- Digits are a text, and how long lines are.
use Rattle.std.proofs.Common.{◌≡◌, ℕ, ◌^◌, ◌<◌, ◌≤◌, Bool, true, ◌&&◌, List, [], ◌∷◌, length, refl, arith}
use Rattle.std.specs.Fmt.{decimal}
use Rattle.std.specs.Prelude.{nat_lt}
use Rattle.std.specs.Str.{IsAscii, IsUtf8}
use Rattle.std.proofs.lemmas.Bool.{and_parts, ltb-true}
use Rattle.std.proofs.lemmas.Fmt.{length-decimal-le_wide}
use Rattle.std.proofs.lemmas.Str.{IsUtf8-from_ascii}
use Rattle.std.proofs.lemmas.Str.Ascii.{IsAscii-nil, IsAscii-cons}
use Rattle.hex.specs.Hex.{encode_lower, lower_digits}
use Rattle.hex.proofs.HexLemmas.{IsAscii-encode_with}

-- whether each byte of a text is ASCII
abbrev are_ascii : List ℕ → Bool
are_ascii [] = true
are_ascii (byte ∷ bytes) = nat_lt byte 128 && are_ascii bytes

IsAscii-tested : (bytes : List ℕ) → are_ascii bytes ≡ true → IsAscii bytes
IsAscii-tested [] tested = IsAscii-nil
IsAscii-tested (byte ∷ bytes) tested =
    let parts = and_parts (nat_lt byte 128) (are_ascii bytes) tested in
    IsAscii-cons byte bytes (ltb-true byte 128 parts.0) (IsAscii-tested bytes parts.1)

pub IsUtf8-digits : (bytes : List ℕ) → IsUtf8 (encode_lower bytes)
IsUtf8-digits bytes = IsUtf8-from_ascii _ (IsAscii-encode_with lower_digits bytes (IsAscii-tested lower_digits refl))

-- a number of 64 bits has at most 20 digits
pub length-decimal_64 : (n : ℕ) → n < 2 ^ 64 → length (decimal n) ≤ 20
length-decimal_64 n small = length-decimal-le_wide 20 n (omega arith) (omega arith) (omega arith)
