-- How long printed words are.
use Rattle.std.proofs.Common.{◌≡◌, ℕ, suc, ◌+◌, ◌^◌, ◌<◌, ◌≤◌, List, [], ◌∷◌, ◌++◌, length, ap, arith, length-append}
use Rattle.std.proofs.lemmas.Fmt.{length-decimal-le_wide}
use Rattle.std.specs.Prelude.{ℤ, pos, negsuc, FitsSigned}
use Rattle.std.specs.Fmt.{decimal, signed_decimal}
use Rattle.std.specs.Int.{w64, w128}
use Rattle.ss_catalog.specs.Queries.{end_name, kind_name}
use Rattle.ss_catalog.specs.declared.query.End.{End}
use Rattle.ss_catalog.specs.declared.query.End.TheVariants as ends
use Rattle.ss_catalog.specs.declared.query.Kind.{Kind}
use Rattle.ss_catalog.specs.declared.query.Kind.TheVariants as kinds
use Rattle.ss_command.specs.Printed.{with_word}

-- a number of 64 bits has at most 20 digits
pub length-decimal_64 : (n : ℕ) → n < 2 ^ 64 → length (decimal n) ≤ 20
length-decimal_64 n small = length-decimal-le_wide 20 n (omega arith) (omega arith) (omega arith)

-- one of 32 bits at most 10
pub length-decimal_32 : (n : ℕ) → n < 2 ^ 32 → length (decimal n) ≤ 10
length-decimal_32 n small = length-decimal-le_wide 10 n (omega arith) (omega arith) (omega arith)

-- a signed number of 64 bits takes at most 20 bytes
pub length-signed_64 : (z : ℤ) → FitsSigned w64 z → length (signed_decimal z) ≤ 20
length-signed_64 (pos n) fits = length-decimal-le_wide 20 n (omega arith) (omega (arith, fits.sfits)) (omega (arith, fits.sfits))
length-signed_64 (negsuc n) fits = omega (arith, length-decimal-le_wide 19 (suc n) (omega arith) (omega (arith, fits.sfits)) (omega (arith, fits.sfits)))

-- one of 128 bits at most 40
pub length-signed_128 : (z : ℤ) → FitsSigned w128 z → length (signed_decimal z) ≤ 40
length-signed_128 (pos n) fits = length-decimal-le_wide 40 n (omega arith) (omega (arith, fits.sfits)) (omega (arith, fits.sfits))
length-signed_128 (negsuc n) fits = omega (arith, length-decimal-le_wide 39 (suc n) (omega arith) (omega (arith, fits.sfits)) (omega (arith, fits.sfits)))

-- the name of what is asked for at most 5, and that of an end 2
pub length-kind : (kind : Kind) → length (kind_name kind) ≤ 5
length-kind kinds.Count = omega arith
length-kind kinds.Sum = omega arith
length-kind kinds.Min = omega arith
length-kind kinds.Max = omega arith
length-kind kinds.Mean = omega arith
length-kind (kinds.Has value) = omega arith
length-kind kinds.CountGuess = omega arith
length-kind kinds.SumGuess = omega arith
length-kind kinds.MeanGuess = omega arith

pub length-end : (end : End) → length (end_name end) ≤ 2
length-end ends.Lo = omega arith
length-end ends.Hi = omega arith

-- a word more is its bytes and a space more
pub length-with_word : (text word : List ℕ) → length (with_word text word) ≡ length text + (1 + length word)
length-with_word text word = omega (arith, length-append text (32 ∷ word))

-- so a text with a space and a short word is short
pub length-put : (new text old word : List ℕ) (most : ℕ) → new ≡ text ++ word → text ≡ old ++ 32 ∷ [] → length word ≤ most →
    length new ≤ length old + (1 + most)
length-put new text old word most put space short =
    omega (arith, ap (λ (bytes : List ℕ). length bytes) put, ap (λ (bytes : List ℕ). length bytes) space, length-append text word, length-append old (32 ∷ []))
