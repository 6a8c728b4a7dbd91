-- Whether a number has an odd number of bits: no step changes that, since the generator has an odd number of them.
use Rattle.std.proofs.Common.{◌≡◌, ◌∙◌, refl, sym, ap, ap₂, ℕ, zero, suc, ◌+◌, ◌*◌, ◌/◌, ◌%◌, ◌^◌, ◌<◌, ◌≤◌, List, arith, lit<, lit≤, inl, inr}
use Rattle.std.specs.Prelude.{bit_xor}
use Rattle.std.proofs.Math.Nat.{pow-le-pow_right, pow-suc}
use Rattle.std.proofs.lemmas.Bool.{cases_eq}
use Rattle.std.proofs.lemmas.Nat.{xor_comm, xor_mod, xor_shr}
use Rattle.ss_checksum.specs.Changes.{AreAsLong, difference}
use Rattle.ss_checksum.specs.Checksum.{after_bit, after_bits, generator}
use Rattle.ss_checksum.specs.Codeword.{IsChecked}
use Rattle.ss_checksum.proofs.StepLemmas.{after_bit-lt, xor_swap}
use Rattle.ss_checksum.proofs.ChangeLemmas.{AreBytes, bits_of, difference-lt}
use Rattle.ss_checksum.proofs.CodewordLemmas.{checked-apart}

-- 1 where so many of the lowest bits of a number have an odd number of ones, else 0
abbrev parity : ℕ → ℕ → ℕ
parity zero s = 0
parity (suc w) s = bit_xor (s % 2) (parity w (s / 2))

parity-zero : (w : ℕ) → parity w 0 ≡ 0
parity-zero zero = refl
parity-zero (suc w) = parity-zero w

parity-xor : (w a b : ℕ) → parity w (bit_xor a b) ≡ bit_xor (parity w a) (parity w b)
parity-xor zero a b = refl
parity-xor (suc w) a b =
    let half : bit_xor a b / 2 ≡ bit_xor (a / 2) (b / 2) = xor_shr a b 1 in
    let low : bit_xor a b % 2 ≡ bit_xor (a % 2) (b % 2) = xor_mod a b 1 in
    ap₂ bit_xor low (ap (parity w) half ∙ parity-xor w (a / 2) (b / 2)) ∙ xor_swap (a % 2) (b % 2) (parity w (a / 2)) (parity w (b / 2))

-- bits above the number change nothing
parity-more : (w s : ℕ) → s < 2 ^ w → parity (suc w) s ≡ parity w s
parity-more zero s few =
    let none : s ≡ 0 = omega (arith, few) in
    rw none refl
parity-more (suc w) s few =
    let double : 2 ^ suc w ≡ 2 ^ w * 2 = pow-suc 2 w in
    let half : s / 2 < 2 ^ w = omega (arith, few, double) in
    ap (bit_xor (s % 2)) (parity-more w (s / 2) half)

parity-wider : (more w s : ℕ) → s < 2 ^ w → parity (more + w) s ≡ parity w s
parity-wider zero w s few =
    let same : zero + w ≡ w = omega arith in
    ap (λ k. parity k s) same
parity-wider (suc more) w s few =
    let next : suc more + w ≡ suc (more + w) = omega arith in
    let room : 2 ^ w ≤ 2 ^ (more + w) = pow-le-pow_right {n = 2} (lit≤ tt) (omega arith) in
    ap (λ k. parity k s) next ∙ parity-more (more + w) s (omega (arith, few, room)) ∙ parity-wider more w s few

parity-generator : (more : ℕ) → parity (more + 32) generator ≡ 1
parity-generator more = parity-wider more 32 generator (lit< tt)

parity-lowest : (more bit : ℕ) → bit < 2 → parity (more + 32) (bit * generator) ≡ bit
parity-lowest more zero few =
    let none : 0 * generator ≡ 0 = refl in
    ap (parity (more + 32)) none ∙ parity-zero (more + 32)
parity-lowest more (suc zero) few =
    let one : 1 * generator ≡ generator = refl in
    ap (parity (more + 32)) one ∙ parity-generator more
parity-lowest more (suc (suc bit)) few = absurd (omega arith)

parity-after_bit : (more s : ℕ) → s < 2 ^ (more + 32) → parity (more + 32) (after_bit s) ≡ parity (more + 32) s
parity-after_bit more s few =
    let w = more + 32 in
    let v = more + 31 in
    let wide : w ≡ suc v = omega arith in
    let double : 2 ^ suc v ≡ 2 ^ v * 2 = pow-suc 2 v in
    let size : 2 ^ w ≡ 2 ^ suc v = ap (λ k. 2 ^ k) wide in
    let half : s / 2 < 2 ^ v = omega (arith, few, double, size) in
    let upper : parity w (s / 2) ≡ parity v (s / 2) = ap (λ k. parity k (s / 2)) wide ∙ parity-more v (s / 2) half in
    let whole : parity w s ≡ bit_xor (s % 2) (parity v (s / 2)) = ap (λ k. parity k s) wide in
    parity-xor w (s / 2) (s % 2 * generator)
    ∙ ap₂ bit_xor upper (parity-lowest more (s % 2) (omega arith))
    ∙ xor_comm (parity v (s / 2)) (s % 2)
    ∙ sym whole

parity-after_bits : (more k s : ℕ) → s < 2 ^ (more + 32) → parity (more + 32) (after_bits k s) ≡ parity (more + 32) s
parity-after_bits more zero s few = refl
parity-after_bits more (suc k) s few =
    parity-after_bits more k (after_bit s) (after_bit-lt (more + 32) s (omega arith) few) ∙ parity-after_bit more s few

parity-power : (i w : ℕ) → i < w → parity w (2 ^ i) ≡ 1
parity-power i zero inside = absurd (omega arith)
parity-power zero (suc w) inside = ap (bit_xor 1) (parity-zero w)
parity-power (suc i) (suc w) inside =
    let double : 2 ^ suc i ≡ 2 ^ i * 2 = pow-suc 2 i in
    let low : 2 ^ suc i % 2 ≡ 0 = omega (arith, double) in
    let half : 2 ^ suc i / 2 ≡ 2 ^ i = omega (arith, double) in
    rw (low, half) (parity-power i w (omega (arith, inside)))

-- one bit, or three of which two may be the same, are an odd number
pub odd : (front xs ys : List ℕ) (i j k : ℕ) → AreBytes front → AreAsLong xs ys → IsChecked front xs
    → difference xs ys ≡ bit_xor (2 ^ i) (bit_xor (2 ^ j) (2 ^ k)) → ¬ IsChecked front ys
odd front xs ys i j k front_bytes long checked is =
    let n = bits_of xs in
    let more = n + i + j + k in
    let w = more + 32 in
    let d = difference xs ys in
    let room : 2 ^ n ≤ 2 ^ w = pow-le-pow_right {n = 2} (lit≤ tt) (omega arith) in
    let few : d < 2 ^ w = omega (arith, difference-lt xs ys long, room) in
    let three : bit_xor (parity w (2 ^ i)) (bit_xor (parity w (2 ^ j)) (parity w (2 ^ k))) ≡ 1 =
    rw (parity-power i w (omega arith), parity-power j w (omega arith), parity-power k w (omega arith)) refl in
    let start : parity w d ≡ 1 =
    ap (parity w) is ∙ parity-xor w (2 ^ i) (bit_xor (2 ^ j) (2 ^ k)) ∙ ap (bit_xor (parity w (2 ^ i))) (parity-xor w (2 ^ j) (2 ^ k)) ∙ three in
    let end : parity w (after_bits n d) ≡ 1 = parity-after_bits more n d few ∙ start in
    elim (cases_eq (after_bits n d) 0) [
      | inl none ↦ absurd (omega (arith, end, parity-zero w, ap (parity w) none))
      | inr some ↦ checked-apart front xs ys front_bytes long checked (omega (arith, some))
    ]
