-- Bytes one after the other as steps over one number, and in which bits bytes differ from others.
use Rattle.std.proofs.Common.{◌≡◌, ◌∙◌, refl, sym, ap, ap₂, ℕ, ◌+◌, ◌-◌, ◌*◌, ◌^◌, ◌<◌, ◌≤◌, List, [], ◌∷◌, length, All, arith, lit<, lit≤, inl, inr}
use Rattle.std.specs.Prelude.{bit_xor}
use Rattle.std.specs.Int.Bits.{xor_assoc, xor_zero_r}
use Rattle.std.proofs.Math.Nat.{pow-le-pow_right}
use Rattle.std.proofs.lemmas.Bool.{cases_lt}
use Rattle.std.proofs.lemmas.List.Elements.{All-head, All-tail}
use Rattle.std.proofs.lemmas.Nat.{pow-add, xor_comm, xor_lt}
use Rattle.ss_checksum.specs.Changes.{AreAsLong, difference, number_of_bytes}
use Rattle.ss_checksum.specs.Checksum.{after_bits, after_byte, after_bytes}
use Rattle.ss_checksum.proofs.StepLemmas.{after_bits-add, after_bits-shifted, after_bits-xor, xor_parts}

abbrev pub AreBytes : List ℕ → Type 0
AreBytes xs = All (λ x. x < 2 ^ 8) xs

-- how many bits bytes have
abbrev pub bits_of : List ℕ → ℕ
bits_of [] = 0
bits_of (x ∷ xs) = 8 + bits_of xs

pub bits_of-is : (xs : List ℕ) → bits_of xs ≡ 8 * length xs
bits_of-is [] = refl
bits_of-is (x ∷ xs) = omega (arith, bits_of-is xs)

pub number_of_bytes-lt : (xs : List ℕ) → AreBytes xs → number_of_bytes xs < 2 ^ bits_of xs
number_of_bytes-lt [] bytes = lit< tt
number_of_bytes-lt (x ∷ xs) bytes =
    let rest = number_of_bytes-lt xs (All-tail (λ x. x < 2 ^ 8) x xs bytes) in
    let first : x < 2 ^ 8 = All-head (λ x. x < 2 ^ 8) x xs bytes in
    let room : 2 ^ (8 + bits_of xs) ≡ 2 ^ 8 * 2 ^ bits_of xs = pow-add 2 8 (bits_of xs) in
    rw room (omega (arith, rest, first))

-- bytes of one number are the same
pub number_of_bytes-same : (xs ys : List ℕ) → AreAsLong xs ys → number_of_bytes xs ≡ number_of_bytes ys → ys ≡ xs
number_of_bytes-same [] [] long numbers = refl
number_of_bytes-same [] (y ∷ ys) long numbers = absurd (omega (arith, long.same))
number_of_bytes-same (x ∷ xs) [] long numbers = absurd (omega (arith, long.same))
number_of_bytes-same (x ∷ xs) (y ∷ ys) long numbers =
    let P : ℕ → Type 0 = λ x. x < 2 ^ 8 in
    let first : x < 2 ^ 8 = All-head P x xs long.bytes in
    let other : y < 2 ^ 8 = All-head P y ys long.others in
    let rest : AreAsLong xs ys = record { same = omega (arith, long.same); bytes = All-tail P x xs long.bytes; others = All-tail P y ys long.others } in
    ap₂ ◌∷◌ (omega (arith, first, other, numbers)) (number_of_bytes-same xs ys rest (omega (arith, first, other, numbers)))

-- bytes one after the other are steps over all their bits at once
pub after_bytes-is : (state : ℕ) (xs : List ℕ) → AreBytes xs → after_bytes state xs ≡ after_bits (bits_of xs) (bit_xor state (number_of_bytes xs))
after_bytes-is state [] bytes = sym (xor_zero_r state)
after_bytes-is state (x ∷ xs) bytes =
    let rest = number_of_bytes xs in
    let first : x < 2 ^ 8 = All-head (λ x. x < 2 ^ 8) x xs bytes in
    let moved : after_bits 8 (rest * 2 ^ 8) ≡ rest = after_bits-shifted 8 rest in
    let parts : bit_xor x (rest * 2 ^ 8) ≡ x + 2 ^ 8 * rest = xor_comm x (rest * 2 ^ 8) ∙ xor_parts rest 8 x first ∙ omega arith in
    after_bytes-is (after_byte state x) xs (All-tail (λ x. x < 2 ^ 8) x xs bytes)
    ∙ ap (λ y. after_bits (bits_of xs) (bit_xor (after_byte state x) y)) (sym moved)
    ∙ ap (after_bits (bits_of xs)) (sym (after_bits-xor 8 (bit_xor state x) (rest * 2 ^ 8)))
    ∙ sym (after_bits-add 8 (bits_of xs) (bit_xor (bit_xor state x) (rest * 2 ^ 8)))
    ∙ ap (after_bits (8 + bits_of xs)) (xor_assoc state x (rest * 2 ^ 8) ∙ ap (bit_xor state) parts)

pub bits_of-same : (xs ys : List ℕ) → length ys ≡ length xs → bits_of ys ≡ bits_of xs
bits_of-same xs ys same = omega (arith, bits_of-is xs, bits_of-is ys)

pub difference-lt : (xs ys : List ℕ) → AreAsLong xs ys → difference xs ys < 2 ^ bits_of xs
difference-lt xs ys long =
    let there : number_of_bytes ys < 2 ^ bits_of xs = rw (bits_of-same xs ys long.same) at (number_of_bytes-lt ys long.others) in
    xor_lt (bits_of xs) (number_of_bytes xs) (number_of_bytes ys) (number_of_bytes-lt xs long.bytes) there

-- powers below others have smaller exponents
pub below_power : (i k : ℕ) → 2 ^ i < 2 ^ k → i < k
below_power i k less =
    elim (cases_lt i k) [
      | inl lt ↦ lt
      | inr ge ↦ absurd (omega (arith, less, pow-le-pow_right {n = 2} (lit≤ tt) ge))
    ]

-- what is left of a run of bits after more steps than it was moved up
pub moved_down : (k at run : ℕ) → at ≤ k → after_bits k (run * 2 ^ at) ≡ after_bits (k - at) run
moved_down k at run inside =
    let parts : k ≡ at + (k - at) = omega (arith, inside) in
    ap (λ n. after_bits n (run * 2 ^ at)) parts
    ∙ after_bits-add at (k - at) (run * 2 ^ at)
    ∙ ap (after_bits (k - at)) (after_bits-shifted at run)
