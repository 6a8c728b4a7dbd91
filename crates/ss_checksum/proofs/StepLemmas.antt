-- Steps of the checksum: they go through an exclusive or, undo a shift, and lose no bit of 32.
use Rattle.std.proofs.Common.{◌≡◌, ◌∙◌, refl, sym, ap, ℕ, zero, suc, ◌+◌, ◌*◌, ◌/◌, ◌%◌, ◌^◌, ◌<◌, ◌≤◌, arith, lit≤, inl, inr}
use Rattle.std.specs.Prelude.{bit_xor}
use Rattle.std.specs.Int.Bits.{xor_assoc, xor_self, xor_zero_l, xor_zero_r}
use Rattle.std.proofs.Math.Nat.{one-le-pow, pow-le-pow_right, pow-suc}
use Rattle.std.proofs.lemmas.Bool.{cases_eq}
use Rattle.std.proofs.lemmas.Nat.{div-add-mod', xor_comm, xor_lt, xor_mod, xor_block, xor_shr}
use Rattle.ss_checksum.specs.Checksum.{generator, after_bit, after_bits}

pub xor_swap : (a b c d : ℕ) → bit_xor (bit_xor a b) (bit_xor c d) ≡ bit_xor (bit_xor a c) (bit_xor b d)
xor_swap a b c d =
    xor_assoc a b (bit_xor c d)
    ∙ ap (bit_xor a) (sym (xor_assoc b c d) ∙ ap (λ x. bit_xor x d) (xor_comm b c) ∙ xor_assoc c b d)
    ∙ sym (xor_assoc a c (bit_xor b d))

-- where the last two are one
pub xor_cancel : (a b c : ℕ) → bit_xor (bit_xor a c) (bit_xor b c) ≡ bit_xor a b
xor_cancel a b c = xor_swap a c b c ∙ ap (bit_xor (bit_xor a b)) (xor_self c) ∙ xor_zero_r (bit_xor a b)

-- numbers of which nothing differs are the same
pub from_none : (a b : ℕ) → bit_xor a b ≡ 0 → a ≡ b
from_none a b none =
    sym (xor_zero_r a) ∙ ap (bit_xor a) (sym (xor_self b)) ∙ sym (xor_assoc a b b) ∙ ap (λ x. bit_xor x b) none ∙ xor_zero_l b

xor_times : (a b g : ℕ) → a < 2 → b < 2 → bit_xor a b * g ≡ bit_xor (a * g) (b * g)
xor_times zero b g a_bit b_bit =
    let none : 0 * g ≡ 0 = omega arith in
    rw none refl
xor_times (suc zero) zero g a_bit b_bit =
    let none : 0 * g ≡ 0 = omega arith in
    rw none (sym (xor_zero_r (1 * g)))
xor_times (suc zero) (suc zero) g a_bit b_bit =
    let none : 0 * g ≡ 0 = omega arith in
    none ∙ sym (xor_self (1 * g))
xor_times (suc zero) (suc (suc b)) g a_bit b_bit = absurd (omega arith)
xor_times (suc (suc a)) b g a_bit b_bit = absurd (omega arith)

-- parts that lie apart
pub xor_parts : (a k r : ℕ) → r < 2 ^ k → bit_xor (a * 2 ^ k) r ≡ a * 2 ^ k + r
xor_parts a k r low =
    let room : 0 < 2 ^ k = one-le-pow k 2 (lit≤ tt) in
    let left : a * 2 ^ k + 0 ≡ a * 2 ^ k = omega arith in
    let right : 0 * 2 ^ k + r ≡ r = omega arith in
    let whole = xor_block k a 0 0 r room low in
    rw (left, right, xor_zero_r a, xor_zero_l r) at whole

pub after_bit-xor : (a b : ℕ) → after_bit (bit_xor a b) ≡ bit_xor (after_bit a) (after_bit b)
after_bit-xor a b =
    let half : bit_xor a b / 2 ≡ bit_xor (a / 2) (b / 2) = xor_shr a b 1 in
    let low : bit_xor a b % 2 ≡ bit_xor (a % 2) (b % 2) = xor_mod a b 1 in
    rw (half, low, xor_times (a % 2) (b % 2) generator (omega arith) (omega arith))
    (xor_swap (a / 2) (b / 2) (a % 2 * generator) (b % 2 * generator))

pub after_bits-xor : (k a b : ℕ) → after_bits k (bit_xor a b) ≡ bit_xor (after_bits k a) (after_bits k b)
after_bits-xor zero a b = refl
after_bits-xor (suc k) a b = ap (after_bits k) (after_bit-xor a b) ∙ after_bits-xor k (after_bit a) (after_bit b)

after_bit-double : (x : ℕ) → after_bit (x * 2) ≡ x
after_bit-double x =
    let half : x * 2 / 2 ≡ x = omega arith in
    let low : x * 2 % 2 ≡ 0 = omega arith in
    rw (half, low) (xor_zero_r x)

pub after_bits-shifted : (k x : ℕ) → after_bits k (x * 2 ^ k) ≡ x
after_bits-shifted zero x = omega arith
after_bits-shifted (suc k) x =
    let shift : x * 2 ^ suc k ≡ x * 2 ^ k * 2 = rw (pow-suc) (omega arith) in
    ap (λ y. after_bits k (after_bit y)) shift ∙ ap (after_bits k) (after_bit-double (x * 2 ^ k)) ∙ after_bits-shifted k x

pub after_bits-add : (j k s : ℕ) → after_bits (j + k) s ≡ after_bits k (after_bits j s)
after_bits-add zero k s =
    let same : zero + k ≡ k = omega arith in
    ap (λ n. after_bits n s) same
after_bits-add (suc j) k s =
    let more : suc j + k ≡ suc (j + k) = omega arith in
    ap (λ n. after_bits n s) more ∙ after_bits-add j k (after_bit s)

-- a number of 32 bits at least stays one of as many
pub after_bit-lt : (w s : ℕ) → 32 ≤ w → s < 2 ^ w → after_bit s < 2 ^ w
after_bit-lt w s wide few =
    let room : 2 ^ 32 ≤ 2 ^ w = pow-le-pow_right (lit≤ tt) wide in
    let bit : s % 2 < 2 = omega arith in
    xor_lt w (s / 2) (s % 2 * generator) (omega (arith, few)) (omega (arith, room, bit))

pub after_bits-lt : (w k s : ℕ) → 32 ≤ w → s < 2 ^ w → after_bits k s < 2 ^ w
after_bits-lt w zero s wide few = few
after_bits-lt w (suc k) s wide few = after_bits-lt w k (after_bit s) wide (after_bit-lt w s wide few)

-- steps over a byte and more: all of them of the lowest byte, and those behind it of what stands above
pub after_bits-byte : (k x : ℕ) → after_bits (8 + k) x ≡ bit_xor (after_bits (8 + k) (x % 256)) (after_bits k (x / 256))
after_bits-byte k x =
    let low : x % 2 ^ 8 < 2 ^ 8 = omega arith in
    let whole : bit_xor (x / 2 ^ 8 * 2 ^ 8) (x % 2 ^ 8) ≡ x = xor_parts (x / 2 ^ 8) 8 (x % 2 ^ 8) low ∙ div-add-mod' x (2 ^ 8) in
    let above : after_bits (8 + k) (x / 2 ^ 8 * 2 ^ 8) ≡ after_bits k (x / 2 ^ 8) =
    after_bits-add 8 k (x / 2 ^ 8 * 2 ^ 8) ∙ ap (after_bits k) (after_bits-shifted 8 (x / 2 ^ 8)) in
    ap (after_bits (8 + k)) (sym whole)
    ∙ after_bits-xor (8 + k) (x / 2 ^ 8 * 2 ^ 8) (x % 2 ^ 8)
    ∙ xor_comm (after_bits (8 + k) (x / 2 ^ 8 * 2 ^ 8)) (after_bits (8 + k) (x % 2 ^ 8))
    ∙ ap (bit_xor (after_bits (8 + k) (x % 2 ^ 8))) above

-- of 32 bits, byte by byte
pub after_bits-four : (k x : ℕ) → x < 2 ^ 32 → after_bits (8 + (8 + (8 + (8 + k)))) x ≡ bit_xor (bit_xor (bit_xor
    (after_bits (8 + (8 + (8 + (8 + k)))) (x % 256)) (after_bits (8 + (8 + (8 + k))) (x / 256 % 256)))
    (after_bits (8 + (8 + k)) (x / 65536 % 256))) (after_bits (8 + k) (x / 16777216 % 256))
after_bits-four k x few =
    let next : x / 256 / 256 ≡ x / 65536 = omega arith in
    let last : x / 65536 / 256 ≡ x / 16777216 % 256 = omega (arith, few) in
    let a = after_bits (8 + (8 + (8 + (8 + k)))) (x % 256) in
    let b = after_bits (8 + (8 + (8 + k))) (x / 256 % 256) in
    let c = after_bits (8 + (8 + k)) (x / 65536 % 256) in
    let d = after_bits (8 + k) (x / 16777216 % 256) in
    after_bits-byte (8 + (8 + (8 + k))) x
    ∙ ap (bit_xor a) (after_bits-byte (8 + (8 + k)) (x / 256) ∙ ap (λ y. bit_xor b (after_bits (8 + (8 + k)) y)) next
    ∙ ap (bit_xor b) (after_bits-byte (8 + k) (x / 65536) ∙ ap (λ y. bit_xor c (after_bits (8 + k) y)) last))
    ∙ sym (xor_assoc a b (bit_xor c d))
    ∙ sym (xor_assoc (bit_xor a b) c d)

-- no step leaves nothing of 32 bits, since the generator has its highest bit
after_bit-some : (s : ℕ) → 0 < s → s < 2 ^ 32 → 0 < after_bit s
after_bit-some s some few =
    elim (cases_eq (s % 2) 0) [
      | inl even ↦ rw (even, xor_zero_r) (omega (arith, some))
      | inr odd ↦
          let one : s % 2 ≡ 1 = omega (arith, odd) in
          elim (cases_eq (after_bit s) 0) [
            | inl none ↦
                let gone : bit_xor (s / 2) (1 * generator) ≡ 0 = rw one at none in
                let same : s / 2 ≡ generator = from_none (s / 2) generator gone in
                absurd (omega (arith, same, few))
            | inr kept ↦ omega (arith, kept)
          ]
    ]

pub after_bits-some : (k s : ℕ) → 0 < s → s < 2 ^ 32 → 0 < after_bits k s
after_bits-some zero s some few = some
after_bits-some (suc k) s some few = after_bits-some k (after_bit s) (after_bit-some s some few) (after_bit-lt 32 s (lit≤ tt) few)
