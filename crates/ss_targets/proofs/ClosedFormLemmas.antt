-- The closed forms of power sums: each multiplied out, by induction, and then divided.
use Rattle.std.proofs.Common.{ℕ, zero, suc, ◌≡◌, refl, ◌+◌, ◌-◌, ◌*◌, ◌/◌, ◌^◌, ◌<◌, ◌≤◌, ap, ◌∙◌, arith}
use Rattle.std.proofs.Math.Nat.{mul-le-mul, mul-le-mul_right, pow-zero, pow-suc}
use Rattle.std.proofs.lemmas.Nat.{pow-add}
use Rattle.ss_targets.specs.PowerSum.{power_sum}

-- the powers of a number, by its square
pow-one : (m : ℕ) → m ^ 1 ≡ m
pow-one m = pow-suc m 0 ∙ (rw pow-zero (omega arith))

pow-square : (m : ℕ) → m ^ 2 ≡ m * m
pow-square m = pow-suc m 1 ∙ ap (λ k. k * m) (pow-one m)

pow-three : (m : ℕ) → m ^ 3 ≡ m * m * m
pow-three m = pow-suc m 2 ∙ ap (λ k. k * m) (pow-square m)

pow-four : (m x : ℕ) → m * m ≡ x → m ^ 4 ≡ x * x
pow-four m x square = pow-add m 2 2 ∙ (rw (pow-square, square) refl)

pow-five : (m x : ℕ) → m * m ≡ x → m ^ 5 ≡ x * x * m
pow-five m x square = pow-suc m 4 ∙ ap (λ k. k * m) (pow-four m x square)

pow-six : (m x : ℕ) → m * m ≡ x → m ^ 6 ≡ x * x * x
pow-six m x square = pow-add m 4 2 ∙ (rw (pow-four m x square, pow-square, square) refl)

-- the product n(n+1), and 2n+1
abbrev pub pair : ℕ → ℕ
pair n = n * (n + 1)

abbrev pub odd : ℕ → ℕ
odd n = 2 * n + 1

pair-next : (n : ℕ) → pair (n + 1) ≡ pair n + 2 * (n + 1)
pair-next n = omega arith

odd-next : (n : ℕ) → odd (n + 1) ≡ odd n + 2
odd-next n = omega arith

-- m is n + 1, p is n(n+1) and q is 2n+1: what their products are, with m * m as p + m and q as 2 * m less 1
module _ (m p q : ℕ) (square : m * m ≡ p + m) (twice : q + 1 ≡ 2 * m) where
  times-square : (k : ℕ) → k * m * m ≡ k * p + k * m
  times-square k = omega (arith, ap (λ x. k * x) square)

  times-odd : (k : ℕ) → k * q + k ≡ 2 * (k * m)
  times-odd k = omega (arith, ap (λ x. k * x) twice)

  -- the powers of p + 2 * m, which is n(n+1) for the next n
  next-square : (p + 2 * m) * (p + 2 * m) ≡ p * p + 4 * (p * m) + 4 * p + 4 * m
  next-square = omega (arith, square)

  next-cube : (p + 2 * m) * (p + 2 * m) * (p + 2 * m) ≡ p * p * p + 6 * (p * p * m) + 12 * (p * p) + 20 * (p * m) + 8 * p + 8 * m
  next-cube = omega (arith, times-square m, times-square p, square)

  step-four : (s : ℕ) → 30 * s + p * q ≡ 3 * (p * p * q) →
      30 * (s + (p + m) * (p + m)) + (p + 2 * m) * (q + 2) ≡ 3 * ((p + 2 * m) * (p + 2 * m) * (q + 2))
  step-four s before =
      rw next-square (omega (arith, before, square, times-odd p, times-odd m, times-odd (p * m), times-square p, times-square m))

  step-five : (s : ℕ) → 12 * s + p * p ≡ 2 * (p * p * p) →
      12 * (s + (p + m) * (p + m) * m) + (p + 2 * m) * (p + 2 * m) ≡ 2 * ((p + 2 * m) * (p + 2 * m) * (p + 2 * m))
  step-five s before = rw (next-cube, next-square) (omega (arith, before, square, times-square p, times-square m))

  step-six : (s : ℕ) → 42 * s + 3 * (p * p * q) ≡ 3 * (p * p * p * q) + p * q →
      42 * (s + (p + m) * (p + m) * (p + m)) + 3 * ((p + 2 * m) * (p + 2 * m) * (q + 2)) ≡
      3 * ((p + 2 * m) * (p + 2 * m) * (p + 2 * m) * (q + 2)) + (p + 2 * m) * (q + 2)
  step-six s before =
      rw (next-cube, next-square)
      (omega (
        arith,
        before,
        square,
        times-odd p,
        times-odd m,
        times-odd (p * m),
        times-odd (p * p),
        times-odd (p * p * m),
        times-square p,
        times-square m,
        times-square (p * p),
      ))

-- each sum, multiplied out
product-zero : (n : ℕ) → power_sum 0 n ≡ n
product-zero zero = omega arith
product-zero (suc n) = omega (arith, product-zero n, pow-zero (n + 1))

product-one : (n : ℕ) → 2 * power_sum 1 n ≡ pair n
product-one zero = omega arith
product-one (suc n) = let same : suc n ≡ n + 1 = omega arith in rw same (omega (arith, product-one n, pow-one (n + 1)))

product-two : (n : ℕ) → 6 * power_sum 2 n ≡ pair n * odd n
product-two zero = omega arith
product-two (suc n) = let same : suc n ≡ n + 1 = omega arith in rw same (omega (arith, product-two n, pow-square (n + 1)))

product-three : (n : ℕ) → 4 * power_sum 3 n ≡ pair n * pair n
product-three zero = omega arith
product-three (suc n) = let same : suc n ≡ n + 1 = omega arith in rw same (omega (arith, product-three n, pow-three (n + 1)))

next-square_of : (n : ℕ) → (n + 1) * (n + 1) ≡ pair n + (n + 1)
next-square_of n = omega arith

product-four : (n : ℕ) → 30 * power_sum 4 n + pair n * odd n ≡ 3 * (pair n * pair n * odd n)
product-four zero = omega arith
product-four (suc n) =
    let same : suc n ≡ n + 1 = omega arith in
    rw (same, pair-next n, odd-next n, pow-four (n + 1) _ (next-square_of n))
    (step-four (n + 1) (pair n) (odd n) (next-square_of n) (omega arith) (power_sum 4 n) (product-four n))

product-five : (n : ℕ) → 12 * power_sum 5 n + pair n * pair n ≡ 2 * (pair n * pair n * pair n)
product-five zero = omega arith
product-five (suc n) =
    let same : suc n ≡ n + 1 = omega arith in
    rw (same, pair-next n, pow-five (n + 1) _ (next-square_of n))
    (step-five (n + 1) (pair n) (odd n) (next-square_of n) (omega arith) (power_sum 5 n) (product-five n))

product-six : (n : ℕ) → 42 * power_sum 6 n + 3 * (pair n * pair n * odd n) ≡ 3 * (pair n * pair n * pair n * odd n) + pair n * odd n
product-six zero = omega arith
product-six (suc n) =
    let same : suc n ≡ n + 1 = omega arith in
    rw (same, pair-next n, odd-next n, pow-six (n + 1) _ (next-square_of n))
    (step-six (n + 1) (pair n) (odd n) (next-square_of n) (omega arith) (power_sum 6 n) (product-six n))

-- a difference times a number
difference-times : (a b c : ℕ) → b ≤ a → (a - b) * c + b * c ≡ a * c
difference-times a b c below = let same : a - b + b ≡ a = omega arith in omega (arith, ap (λ k. k * c) same)

-- a number is at most its square, and its square at most its cube
square-above : (a : ℕ) → a ≤ a * a
square-above zero = omega arith
square-above (suc a) = let some : 1 ≤ suc a = omega arith in omega (arith, mul-le-mul_right (suc a) some)

cube-above : (a : ℕ) → a * a ≤ a * a * a
cube-above a = omega (arith, mul-le-mul_right a (square-above a))

-- the closed forms
pub closed-zero : (n : ℕ) → n ≡ power_sum 0 n
closed-zero n = omega (arith, product-zero n)

pub closed-one : (n : ℕ) → pair n / 2 ≡ power_sum 1 n
closed-one n = omega (arith, product-one n)

pub closed-two : (n : ℕ) → pair n * odd n / 6 ≡ power_sum 2 n
closed-two n = omega (arith, product-two n)

pub closed-three : (n : ℕ) → pair n * pair n / 4 ≡ power_sum 3 n
closed-three n = omega (arith, product-three n)

pub closed-four : (n : ℕ) → (3 * pair n * pair n - pair n) * odd n / 30 ≡ power_sum 4 n
closed-four n = omega (arith, product-four n, difference-times (3 * pair n * pair n) (pair n) (odd n) (omega (arith, square-above (pair n))))

pub closed-five : (n : ℕ) → (2 * pair n * pair n * pair n - pair n * pair n) / 12 ≡ power_sum 5 n
closed-five n = omega (arith, product-five n)

pub closed-six : (n : ℕ) → (3 * pair n * pair n * pair n - 3 * pair n * pair n + pair n) * odd n / 42 ≡ power_sum 6 n
closed-six n =
    omega (
      arith,
      product-six n,
      difference-times (3 * pair n * pair n * pair n) (3 * pair n * pair n) (odd n) (omega (arith, cube-above (pair n))),
    )

-- the products stay below 2 ^ 128
pub products-small : (n : ℕ) → n ≤ 2 ^ 15 →
    (pair n * odd n ≤ 2 ^ 48) × (pair n * pair n ≤ 2 ^ 62) × (pair n * pair n * odd n ≤ 2 ^ 79) × (pair n * pair n * pair n ≤ 2 ^ 93) ×
    (pair n * pair n * pair n * odd n ≤ 2 ^ 110)
products-small n small =
    let first : pair n ≤ 2 ^ 31 = omega (arith, mul-le-mul small small) in
    let wide : odd n ≤ 2 ^ 17 = omega arith in
    let square = mul-le-mul first first in
    let cube = mul-le-mul square first in
    (mul-le-mul first wide, square, mul-le-mul square wide, cube, mul-le-mul cube wide)

pub products-four : (n : ℕ) → n ≤ 2 ^ 15 → (3 * pair n * pair n - pair n) * odd n < 2 ^ 128
products-four n small =
    omega (arith, products-small n small, difference-times (3 * pair n * pair n) (pair n) (odd n) (omega (arith, square-above (pair n))))

pub products-six : (n : ℕ) → n ≤ 2 ^ 15 → (3 * pair n * pair n * pair n - 3 * pair n * pair n + pair n) * odd n < 2 ^ 128
products-six n small =
    omega (
      arith,
      products-small n small,
      difference-times (3 * pair n * pair n * pair n) (3 * pair n * pair n) (odd n) (omega (arith, cube-above (pair n))),
    )
