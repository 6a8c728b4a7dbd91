-- Power sums: how large they are at most and at least.
use Rattle.std.proofs.Common.{ℕ, zero, suc, ◌≡◌, ◌+◌, ◌-◌, ◌*◌, ◌/◌, ◌^◌, ◌<◌, ◌≤◌, inl, inr, ap, lit≤, lit<, arith}
use Rattle.std.proofs.Math.Nat.{le_trans, mul-le-mul, mul-le-mul_left, mul-le-mul_right, pow-zero, pow-suc, pow-le-pow_left, pow-le-pow_right}
use Rattle.std.proofs.lemmas.Bool.{cases_lt}
use Rattle.ss_base.specs.declared.limits.TheConstants.{MOST_VALUES}
use Rattle.ss_targets.specs.PowerSum.{cap, power_sum}

-- a sum of n powers is at most n times the last
power_sum-le : (e n : ℕ) → power_sum e n ≤ n * n ^ e
power_sum-le e zero = omega arith
power_sum-le e (suc n) =
    let same : suc n ≡ n + 1 = omega arith in
    let lower : n ≤ n + 1 = omega arith in
    rw same (omega (arith, power_sum-le e n, mul-le-mul_left n (pow-le-pow_left lower e)))

-- what both are at the caps
cap-small : (e : ℕ) → e ≤ 6 → (cap e * cap e ^ e ≤ 2 ^ 50) × (cap e ^ e ≤ 2 ^ 42)
cap-small zero low = (lit≤ tt, lit≤ tt)
cap-small (suc zero) low = (lit≤ tt, lit≤ tt)
cap-small (suc (suc zero)) low = (lit≤ tt, lit≤ tt)
cap-small (suc (suc (suc zero))) low = (lit≤ tt, lit≤ tt)
cap-small (suc (suc (suc (suc zero)))) low = (lit≤ tt, lit≤ tt)
cap-small (suc (suc (suc (suc (suc zero))))) low = (lit≤ tt, lit≤ tt)
cap-small (suc (suc (suc (suc (suc (suc zero)))))) low = (lit≤ tt, lit≤ tt)
cap-small (suc (suc (suc (suc (suc (suc (suc e))))))) low = absurd (omega arith)

-- a power that is at most e, of a number up to the cap of e
pub power-small : (e k j : ℕ) → e ≤ 6 → k ≤ e → 1 ≤ j → j ≤ cap e → j ^ k ≤ 2 ^ 42
power-small e k j low under some capped = le_trans (le_trans (pow-le-pow_right some under) (pow-le-pow_left capped e)) (cap-small e low).1

pub power_sum-small : (e n : ℕ) → e ≤ 6 → n ≤ cap e → power_sum e n ≤ 2 ^ 50
power_sum-small e n low capped =
    omega (arith, power_sum-le e n, mul-le-mul capped (pow-le-pow_left capped e), cap-small e low)

-- the next power is at most so much greater
step-factors : (n k a b c : ℕ) → b ≡ a * (n + 1) → b ≤ c + k * a → b * (n + 1) ≤ c * n + (k + 1) * b
step-factors n k a b c product before =
    let scaled : b * n ≤ (c + k * a) * n = mul-le-mul_right n before in
    let lower : k * (a * n) ≤ k * (a * (n + 1)) = mul-le-mul_left k (mul-le-mul_left a (omega arith)) in
    let named : k * b ≡ k * (a * (n + 1)) = ap (λ x. k * x) product in
    grind (arith, scaled, lower, named)

pow-step : (e n : ℕ) → (n + 1) ^ suc e ≤ n ^ suc e + suc e * (n + 1) ^ e
pow-step zero n = rw (pow-suc, pow-suc, pow-zero, pow-zero) (omega arith)
pow-step (suc e) n =
    let step = step-factors n (suc e) ((n + 1) ^ e) ((n + 1) ^ suc e) (n ^ suc e) (pow-suc (n + 1) e) (pow-step e n) in
    let more : suc e + 1 ≡ suc (suc e) = omega arith in
    rw (pow-suc (n + 1) (suc e), pow-suc n (suc e)) (rw more at step)

-- e + 1 times the sum is at least n ^ (e + 1)
le-power_sum : (e n : ℕ) → n ^ suc e ≤ suc e * power_sum e n
le-power_sum e zero = rw pow-suc (omega arith)
le-power_sum e (suc n) =
    let same : suc n ≡ n + 1 = omega arith in
    rw same (omega (arith, pow-step e n, le-power_sum e n))

cap-large : (e : ℕ) → e ≤ 6 → suc e * MOST_VALUES < cap e ^ suc e
cap-large zero low = lit< tt
cap-large (suc zero) low = lit< tt
cap-large (suc (suc zero)) low = lit< tt
cap-large (suc (suc (suc zero))) low = lit< tt
cap-large (suc (suc (suc (suc zero)))) low = lit< tt
cap-large (suc (suc (suc (suc (suc zero))))) low = lit< tt
cap-large (suc (suc (suc (suc (suc (suc zero)))))) low = lit< tt
cap-large (suc (suc (suc (suc (suc (suc (suc e))))))) low = absurd (omega arith)

pub lt-power_sum-cap : (e : ℕ) → e ≤ 6 → MOST_VALUES < power_sum e (cap e)
lt-power_sum-cap e low = elim (cases_lt MOST_VALUES (power_sum e (cap e))) [
  | inl above ↦ above
  | inr below ↦ absurd (omega (arith, cap-large e low, le-power_sum e (cap e), mul-le-mul_left (suc e) below))
]

-- a longer sum is no smaller
power_sum-monotone : (e i j : ℕ) → i ≤ j → power_sum e i ≤ power_sum e j
power_sum-monotone e i zero order = let same : i ≡ 0 = omega arith in rw same (omega arith)
power_sum-monotone e i (suc j) order = elim (cases_lt j i) [
  | inl late ↦ (let same : i ≡ suc j = omega arith in rw same (omega arith))
  | inr early ↦ omega (arith, power_sum-monotone e i j early)
]

-- a number whose sum is within the greatest age lies below the cap
pub within-cap : (e n : ℕ) → e ≤ 6 → power_sum e n ≤ MOST_VALUES → n < cap e
within-cap e n low within = elim (cases_lt n (cap e)) [
  | inl below ↦ below
  | inr above ↦ absurd (omega (arith, lt-power_sum-cap e low, power_sum-monotone e (cap e) n above))
]

-- both halves of a range of at most 2 ^ k numbers, of which there are two or more
pub halves : (width k : ℕ) → 1 < width → width ≤ 2 ^ k → (1 ≤ k) × (width / 2 ≤ 2 ^ (k - 1)) × (width - width / 2 ≤ 2 ^ (k - 1))
halves width zero some small = absurd (omega (arith, pow-zero 2))
halves width (suc k) some small =
    let same : suc k - 1 ≡ k = omega arith in
    rw same (omega (arith, pow-suc 2 k))
