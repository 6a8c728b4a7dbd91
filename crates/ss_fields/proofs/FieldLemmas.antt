-- A number that is written at a place reads back, and what a write leaves.
use Rattle.std.proofs.Common.{◌≡◌, ℕ, zero, suc, ◌⊎◌, ◌+◌, ◌-◌, ◌^◌, ◌<◌, ◌≤◌, List, [], ◌++◌, length, take, drop, arith, append_assoc, ap, sym, ◌∙◌, refl}
use Rattle.std.proofs.lemmas.List.{append-nil, drop-drop, drop_all, drop_at, length-drop, length-take-le, places, take_rest}
use Rattle.std.proofs.lemmas.Int.{to_z-of_z}
use borrow.Rule.Slice.PartMut.{put_mid}
use Rattle.std.specs.Prelude.{ℤ, pos, negsuc, FitsSigned, slice_index}
use Rattle.std.specs.Int.{cast_signed, cast_unsigned, w64, w128}
use Rattle.byteorder.specs.Endian.{big_from}
use Rattle.byteorder.specs.Numbers.{big_from-take, big_number-reads_back, length-bytes_high_first}
use Rattle.ss_fields.specs.Fields.{number_at, number_bytes}

-- there are n bytes
pub length-number_bytes : (n x : ℕ) → length (number_bytes n x) ≡ n
unfolding number_bytes
length-number_bytes n x = length-bytes_high_first n x

-- what a write at the front of a slice's end leaves of the slice
pub put_mid-written : (at n : ℕ) (bytes field end : List ℕ) → length field ≡ n → at + n ≤ length bytes →
    end ≡ field ++ drop n (take (length bytes - at) (drop at bytes)) → put_mid at (length bytes - at) bytes end ≡ take at bytes ++ field ++ drop (at + n) bytes
put_mid-written at n bytes field end long inside wrote =
    let none : drop (length bytes - at) (drop at bytes) ≡ [] = drop_all (length bytes - at) (drop at bytes) (omega (arith, length-drop at bytes)) in
    rw (none, append-nil, wrote, take_rest, drop-drop, append_assoc) refl

-- a number of n bytes, written at a place, reads back from there
pub number_at-written : (n at x : ℕ) (bytes : List ℕ) → at + n ≤ length bytes → x < 256 ^ n →
    number_at n (take at bytes ++ number_bytes n x ++ drop (at + n) bytes) at ≡ x
unfolding number_at number_bytes
number_at-written n at x bytes inside fits =
    let front : length (take at bytes) ≡ at = length-take-le at bytes (omega arith) in
    rw (append_assoc, drop_at (take at bytes) (number_bytes n x ++ drop (at + n) bytes) at front)
    (big_number-reads_back n x (drop (at + n) bytes) fits)

-- the bits of an `i64` take 8 bytes
cast_unsigned_w64-lt : (z : ℤ) → FitsSigned w64 z → cast_unsigned w64 z < 256 ^ 8
cast_unsigned_w64-lt (pos n) fits = omega (arith, fits.sfits)
cast_unsigned_w64-lt (negsuc n) fits = omega arith

-- the bits of an `i128` take 16 bytes
cast_unsigned_w128-lt : (z : ℤ) → FitsSigned w128 z → cast_unsigned w128 z < 256 ^ 16
cast_unsigned_w128-lt (pos n) fits = omega (arith, fits.sfits)
cast_unsigned_w128-lt (negsuc n) fits = omega arith

-- the same for an `i64`
pub i64_at-written : (at : ℕ) (z : ℤ) (bytes : List ℕ) → at + 8 ≤ length bytes → FitsSigned w64 z →
    cast_signed w64 (number_at 8 (take at bytes ++ number_bytes 8 (cast_unsigned w64 z) ++ drop (at + 8) bytes) at) ≡ z
i64_at-written at z bytes inside fits =
    ap (cast_signed w64) (number_at-written 8 at (cast_unsigned w64 z) bytes inside (cast_unsigned_w64-lt z fits)) ∙ to_z-of_z w64 z fits

-- the same for an `i128`
pub i128_at-written : (at : ℕ) (z : ℤ) (bytes : List ℕ) → at + 16 ≤ length bytes → FitsSigned w128 z →
    cast_signed w128 (number_at 16 (take at bytes ++ number_bytes 16 (cast_unsigned w128 z) ++ drop (at + 16) bytes) at) ≡ z
i128_at-written at z bytes inside fits =
    ap (cast_signed w128) (number_at-written 16 at (cast_unsigned w128 z) bytes inside (cast_unsigned_w128-lt z fits)) ∙ to_z-of_z w128 z fits

-- a number reads only its own bytes
big_from-same : (i n : ℕ) (xs ys : List ℕ) → ((k : ℕ) → i ≤ k → k < i + n → slice_index xs k ≡ slice_index ys k) → big_from i n xs ≡ big_from i n ys
big_from-same i zero xs ys same = refl
big_from-same i (suc n) xs ys same =
    let first = same i (omega arith) (omega arith) in
    let rest = big_from-same (suc i) n xs ys (λ k low high. same k (omega arith) (omega arith)) in
    rw (first, rest) refl

-- a write leaves the numbers beside it
pub number_at-written_beside : (n at m from x : ℕ) (bytes : List ℕ) → from + m ≤ length bytes → (at + n ≤ from) ⊎ (from + m ≤ at) →
    number_at n (take from bytes ++ number_bytes m x ++ drop (from + m) bytes) at ≡ number_at n bytes at
unfolding number_at
number_at-written_beside n at m from x bytes inside beside =
    let long = length-number_bytes m x in
    big_from-same 0 n _ _ (λ k low high. grind (arith, places))

-- where a number's bytes stand, it is read
pub number_at-take : (n at x : ℕ) (bytes : List ℕ) → x < 256 ^ n → take n (drop at bytes) ≡ number_bytes n x → number_at n bytes at ≡ x
unfolding number_at number_bytes
number_at-take n at x bytes fits there =
    sym (big_from-take 0 n n (drop at bytes) (omega arith))
    ∙ ap (big_from 0 n) (there ∙ sym (append-nil (number_bytes n x)))
    ∙ big_number-reads_back n x [] fits

-- the same for an `i64`
pub i64_at-take : (at : ℕ) (z : ℤ) (bytes : List ℕ) → FitsSigned w64 z → take 8 (drop at bytes) ≡ number_bytes 8 (cast_unsigned w64 z) →
    cast_signed w64 (number_at 8 bytes at) ≡ z
i64_at-take at z bytes fits there =
    ap (cast_signed w64) (number_at-take 8 at (cast_unsigned w64 z) bytes (cast_unsigned_w64-lt z fits) there) ∙ to_z-of_z w64 z fits

-- the same for an `i128`
pub i128_at-take : (at : ℕ) (z : ℤ) (bytes : List ℕ) → FitsSigned w128 z → take 16 (drop at bytes) ≡ number_bytes 16 (cast_unsigned w128 z) →
    cast_signed w128 (number_at 16 bytes at) ≡ z
i128_at-take at z bytes fits there =
    ap (cast_signed w128) (number_at-take 16 at (cast_unsigned w128 z) bytes (cast_unsigned_w128-lt z fits) there) ∙ to_z-of_z w128 z fits
