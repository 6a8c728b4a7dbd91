-- Bounds on the sum of two runs of values, from those on the sum of each: i + 1 and j + 1 are the counts.
use Rattle.std.specs.Prelude.{ℕ, ◌+◌, ◌*◌, ◌^◌, ◌<◌, ◌≤◌, ℤ, pos, ◌+ℤ◌, ◌*ℤ◌, ◌≤ℤ◌, FitsSigned, unsigned_abs}
use Rattle.std.specs.Int.{w64, int_min, int_max}
use Rattle.std.proofs.Common.{arith}
use Rattle.std.proofs.lemmas.Int.{ints, clamps}
use Rattle.std.proofs.Math.Nat.{mul-le-mul, mul-le-mul_left}
use borrow.Author.Differences.{up, down}

pub times-le-times : (n : ℕ) (a b : ℤ) → a ≤ℤ b → (pos n *ℤ a) ≤ℤ (pos n *ℤ b)
times-le-times n a b at_most =
    let scaled : n * (up a + down b) ≤ n * (up b + down a) = mul-le-mul_left n (omega (arith, ints)) in
    omega (arith, ints)

module _ {M N m n S T : ℤ} (i j : ℕ) (order_left : m ≤ℤ M) (order_right : n ≤ℤ N) where
  pub max_times_min-le-sum : (M +ℤ pos i *ℤ m) ≤ℤ S → (N +ℤ pos j *ℤ n) ≤ℤ T
      → (int_max M N +ℤ pos (i + j + 1) *ℤ int_min m n) ≤ℤ (S +ℤ T)
  max_times_min-le-sum left right =
      let scaled_left = times-le-times i (int_min m n) m (omega (arith, ints, clamps)) in
      let scaled_right = times-le-times j (int_min m n) n (omega (arith, ints, clamps)) in
      omega (arith, ints, clamps)

  pub sum-le-min_times_max : S ≤ℤ (m +ℤ pos i *ℤ M) → T ≤ℤ (n +ℤ pos j *ℤ N)
      → (S +ℤ T) ≤ℤ (int_min m n +ℤ pos (i + j + 1) *ℤ int_max M N)
  sum-le-min_times_max left right =
      let scaled_left = times-le-times i M (int_max M N) (omega (arith, ints, clamps)) in
      let scaled_right = times-le-times j N (int_max M N) (omega (arith, ints, clamps)) in
      omega (arith, ints, clamps)

-- the sum of at most 2 ^ 40 + 1 values of 64 bits is far within 128 bits
pub unsigned_abs-lt : {m M S : ℤ} (i : ℕ) → FitsSigned w64 m → FitsSigned w64 M → i ≤ 2 ^ 40
    → (M +ℤ pos i *ℤ m) ≤ℤ S → S ≤ℤ (m +ℤ pos i *ℤ M) → unsigned_abs S < 2 ^ 105
unsigned_abs-lt {m} {M} i min_fits max_fits few low high =
    let min_bound : down m ≤ 2 ^ 63 = omega (arith, ints) in
    let max_bound : up M ≤ 2 ^ 63 = omega (arith, ints) in
    let scaled_min = mul-le-mul few min_bound in
    let scaled_max = mul-le-mul few max_bound in
    omega (arith, ints)
