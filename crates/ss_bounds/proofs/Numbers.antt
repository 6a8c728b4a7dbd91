-- Products with a whole number that may be below zero.
use Rattle.std.specs.Prelude.{◌≡◌, ℕ, ◌+◌, ◌-◌, ◌*◌, ◌^◌, ◌≤◌, ℤ, pos, ◌+ℤ◌, ◌-ℤ◌, ◌*ℤ◌, ◌≤ℤ◌, FitsSigned}
use Rattle.std.specs.Int.{w64}
use Rattle.std.proofs.Common.{ap, arith}
use Rattle.std.proofs.lemmas.Int.{ints}
use Rattle.std.proofs.Math.Nat.{mul-le-mul}
use borrow.Author.Differences.{up, down}
use Rattle.ss_summary.proofs.Bounds.{times-le-times}

pub plus-times : (x d : ℕ) (a : ℤ) → (pos (x + d) *ℤ a) ≡ ((pos x *ℤ a) +ℤ (pos d *ℤ a))
plus-times x d a = omega (arith, ints)

pub times-minus : (n : ℕ) (a b : ℤ) → (pos n *ℤ (a -ℤ b)) ≡ ((pos n *ℤ a) -ℤ (pos n *ℤ b))
times-minus n a b =
    let same : up (a -ℤ b) + down a + up b ≡ down (a -ℤ b) + up a + down b = omega (arith, ints) in
    let scaled : n * (up (a -ℤ b) + down a + up b) ≡ n * (down (a -ℤ b) + up a + down b) = ap (λ z. n * z) same in
    omega (arith, ints)

pub times-plus : (n : ℕ) (a b : ℤ) → (pos n *ℤ (a +ℤ b)) ≡ ((pos n *ℤ a) +ℤ (pos n *ℤ b))
times-plus n a b =
    let same : up (a +ℤ b) + down a + down b ≡ down (a +ℤ b) + up a + up b = omega (arith, ints) in
    let scaled : n * (up (a +ℤ b) + down a + down b) ≡ n * (down (a +ℤ b) + up a + up b) = ap (λ z. n * z) same in
    omega (arith, ints)

pub product-times : (m n : ℕ) (a : ℤ) → (pos (m * n) *ℤ a) ≡ (pos m *ℤ (pos n *ℤ a))
product-times m n a =
    let same : up (pos n *ℤ a) + n * down a ≡ down (pos n *ℤ a) + n * up a = omega (arith, ints) in
    let scaled : m * (up (pos n *ℤ a) + n * down a) ≡ m * (down (pos n *ℤ a) + n * up a) = ap (λ z. m * z) same in
    omega (arith, ints)

pub minus-times : (c x : ℕ) (a : ℤ) → x ≤ c → (pos (c - x) *ℤ a) ≡ ((pos c *ℤ a) -ℤ (pos x *ℤ a))
minus-times c x a within =
    let parts : c ≡ x + (c - x) = omega arith in
    let all : (pos c *ℤ a) ≡ (pos (x + (c - x)) *ℤ a) = cc in
    let sum = plus-times x (c - x) a in
    omega (arith, ints)

-- more of a number that isn't below zero is no less
pub more-times : (x y : ℕ) (a : ℤ) → x ≤ y → pos 0 ≤ℤ a → (pos x *ℤ a) ≤ℤ (pos y *ℤ a)
more-times x y a order high =
    let rest = minus-times y x a order in
    let scaled = times-le-times (y - x) (pos 0) a high in
    omega (arith, ints)

-- a product of at most 2^40 and a number of 64 bits is far within 128 bits
pub times-up : (n : ℕ) (a : ℤ) → n ≤ 2 ^ 40 → FitsSigned w64 a → n * up a ≤ 2 ^ 40 * 2 ^ 63
times-up n a few fits = let low : up a ≤ 2 ^ 63 = omega (arith, ints) in mul-le-mul few low

pub times-down : (n : ℕ) (a : ℤ) → n ≤ 2 ^ 40 → FitsSigned w64 a → n * down a ≤ 2 ^ 40 * 2 ^ 63
times-down n a few fits = let low : down a ≤ 2 ^ 63 = omega (arith, ints) in mul-le-mul few low
