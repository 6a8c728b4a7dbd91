-- A number that is read from some bytes is spelled by them.
use Rattle.std.specs.Prelude.{◌≡◌, ℕ, zero, suc, ◌+◌, ◌*◌, ◌/◌, ◌%◌, ◌^◌, ◌<◌, ◌≤◌, List, [], ◌∷◌, length, slice_index, take, drop}
use Rattle.std.specs.Int.{bytes_high_first, byte_at, cast_signed, cast_unsigned, w64, w128}
use Rattle.std.proofs.Common.{arith, refl, sym, ap, ◌∙◌}
use Rattle.std.proofs.Math.Nat.{mod-lt}
use Rattle.std.proofs.lemmas.Int.{of_z-to_z}
use Rattle.std.proofs.lemmas.List.{append-nil, get_or-drop, length-drop, length-take-le}
use Rattle.std.proofs.lemmas.Nat.{div-mul-add, mod-mul-add}
use Rattle.byteorder.specs.Endian.{big_from}
use Rattle.byteorder.specs.Numbers.{big_from-cons, big_from-lt, big_from-take, big_number-reads_back}
use Rattle.ss_fields.specs.Fields.{number_at, number_bytes}
use Rattle.ss_fields.proofs.FieldLemmas.{length-number_bytes}

-- each of the numbers is a byte
abbrev pub AreBytes : List ℕ → Type 0
AreBytes xs = (k : ℕ) → slice_index xs k < 256

byte_at-lt : (k x : ℕ) → byte_at k x < 256
byte_at-lt zero x = mod-lt x (omega arith)
byte_at-lt (suc k) x = mod-lt (x / 256 ^ suc k) (omega arith)

AreBytes-bytes_high_first : (n x : ℕ) → AreBytes (bytes_high_first n x)
AreBytes-bytes_high_first zero x zero = omega arith
AreBytes-bytes_high_first zero x (suc k) = omega arith
AreBytes-bytes_high_first (suc n) x zero = byte_at-lt n x
AreBytes-bytes_high_first (suc n) x (suc k) = AreBytes-bytes_high_first n x k

AreBytes-take : (n : ℕ) (xs : List ℕ) → AreBytes xs → AreBytes (take n xs)
AreBytes-take zero xs are k = omega arith
AreBytes-take (suc n) [] are k = omega arith
AreBytes-take (suc n) (x ∷ xs) are zero = are 0
AreBytes-take (suc n) (x ∷ xs) are (suc k) = AreBytes-take n xs (λ j. are (suc j)) k

-- two numbers of n bytes that are one number have the same bytes
same-big_from : (n : ℕ) (xs ys : List ℕ) → length xs ≡ n → length ys ≡ n → AreBytes xs → AreBytes ys → big_from 0 n xs ≡ big_from 0 n ys → xs ≡ ys
same-big_from zero [] [] long_x long_y bytes_x bytes_y same = refl
same-big_from zero (x ∷ xs) ys long_x long_y bytes_x bytes_y same = absurd (omega arith)
same-big_from zero [] (y ∷ ys) long_x long_y bytes_x bytes_y same = absurd (omega arith)
same-big_from (suc n) [] ys long_x long_y bytes_x bytes_y same = absurd (omega arith)
same-big_from (suc n) (x ∷ xs) [] long_x long_y bytes_x bytes_y same = absurd (omega arith)
same-big_from (suc n) (x ∷ xs) (y ∷ ys) long_x long_y bytes_x bytes_y same =
    let rest_x : AreBytes xs = λ k. bytes_x (suc k) in
    let rest_y : AreBytes ys = λ k. bytes_y (suc k) in
    let low_x = big_from-lt 0 n xs rest_x in
    let low_y = big_from-lt 0 n ys rest_y in
    let sums : x * 256 ^ n + big_from 0 n xs ≡ y * 256 ^ n + big_from 0 n ys =
    ap (λ (r : ℕ). x * 256 ^ n + r) (sym (big_from-cons 0 n x xs)) ∙ same ∙ ap (λ (r : ℕ). y * 256 ^ n + r) (big_from-cons 0 n y ys) in
    let first = sym (div-mul-add x (256 ^ n) (big_from 0 n xs) low_x) ∙ ap (λ (s : ℕ). s / 256 ^ n) sums ∙ div-mul-add y (256 ^ n) (big_from 0 n ys) low_y in
    let rest = sym (mod-mul-add x (256 ^ n) (big_from 0 n xs) low_x) ∙ ap (λ (s : ℕ). s % 256 ^ n) sums ∙ mod-mul-add y (256 ^ n) (big_from 0 n ys) low_y in
    let tail = same-big_from n xs ys (omega arith) (omega arith) rest_x rest_y rest in
    λ i. first i ∷ tail i

-- a number that is read from some bytes is spelled by them
pub number_bytes-number_at : (n at : ℕ) (bytes : List ℕ) → at + n ≤ length bytes → AreBytes bytes → number_bytes n (number_at n bytes at)
    ≡ take n (drop at bytes)
unfolding number_at number_bytes
number_bytes-number_at n at bytes inside are =
    let number = number_at n bytes at in
    let tail : AreBytes (drop at bytes) = λ k. rw (get_or-drop at bytes k 0) (are (at + k)) in
    let rest = length-drop at bytes in
    let size = length-take-le n (drop at bytes) (omega arith) in
    let small = big_from-lt 0 n (drop at bytes) tail in
    same-big_from n (number_bytes n number) (take n (drop at bytes)) (length-number_bytes n number) size
    (AreBytes-bytes_high_first n number)
    (AreBytes-take n (drop at bytes) tail)
    (ap (big_from 0 n) (sym (append-nil (number_bytes n number)))
    ∙ big_number-reads_back n number [] small
    ∙ sym (big_from-take 0 n n (drop at bytes) (omega arith)))

pub i64_bytes-number_at : (at : ℕ) (bytes : List ℕ) → at + 8 ≤ length bytes → AreBytes bytes
    → number_bytes 8 (cast_unsigned w64 (cast_signed w64 (number_at 8 bytes at))) ≡ take 8 (drop at bytes)
unfolding number_at
i64_bytes-number_at at bytes inside are =
    let small = big_from-lt 0 8 (drop at bytes) (λ k. rw (get_or-drop at bytes k 0) (are (at + k))) in
    ap (number_bytes 8) (of_z-to_z w64 (number_at 8 bytes at) small) ∙ number_bytes-number_at 8 at bytes inside are

pub i128_bytes-number_at : (at : ℕ) (bytes : List ℕ) → at + 16 ≤ length bytes → AreBytes bytes
    → number_bytes 16 (cast_unsigned w128 (cast_signed w128 (number_at 16 bytes at))) ≡ take 16 (drop at bytes)
unfolding number_at
i128_bytes-number_at at bytes inside are =
    let small = big_from-lt 0 16 (drop at bytes) (λ k. rw (get_or-drop at bytes k 0) (are (at + k))) in
    ap (number_bytes 16) (of_z-to_z w128 (number_at 16 bytes at) small) ∙ number_bytes-number_at 16 at bytes inside are
