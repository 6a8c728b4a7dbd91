-- How two fractions compare, by their whole parts and by their rests.
use Rattle.std.specs.Prelude.{◌≡◌, ℕ, ◌+◌, ◌*◌, ◌<◌, ◌≤◌, ◌⊎◌}
use Rattle.std.specs.Ordering.{MatchOrdering}
use Rattle.std.specs.declared.cmp.Ordering.TheVariants.{Less, Equal, Greater}
use Rattle.std.proofs.Common.{Ordering, arith, ap, inl, inr}
use Rattle.std.proofs.Math.Nat.{mul-le-mul_left}

-- a and c are q times b with the rest r, and p times d with the rest t
module _ (a b c d q r p t : ℕ) (first : a ≡ b * q + r) (second : c ≡ d * p + t) (proper : r < b) (other_proper : t < d) where
  scaled : a * d ≡ (b * d) * q + r * d
  scaled = let all : a * d ≡ (b * q + r) * d = ap (λ n. n * d) first in omega arith

  other_scaled : c * b ≡ (b * d) * p + t * b
  other_scaled = let all : c * b ≡ (d * p + t) * b = ap (λ n. n * b) second in omega arith

  less-whole : q < p → a * d < c * b
  less-whole less =
      let all : (b * d) * (q + 1) ≤ (b * d) * p = mul-le-mul_left (b * d) (omega arith) in
      let rest : d * (r + 1) ≤ d * b = mul-le-mul_left d (omega arith) in
      omega (arith, scaled, other_scaled)

  more-whole : p < q → c * b < a * d
  more-whole more =
      let all : (b * d) * (p + 1) ≤ (b * d) * q = mul-le-mul_left (b * d) (omega arith) in
      let rest : b * (t + 1) ≤ b * d = mul-le-mul_left b (omega arith) in
      omega (arith, scaled, other_scaled)

  pub compare-whole : (o : Ordering) → MatchOrdering o (q < p) (q ≡ p) (p < q) → (q ≡ p → ⊥)
      → MatchOrdering o (a * d < c * b) (a * d ≡ c * b) (c * b < a * d)
  compare-whole Less is apart = less-whole is
  compare-whole Equal is apart = absurd (apart is)
  compare-whole Greater is apart = more-whole is

  -- where the whole parts are equal, the products of the rests decide
  pub compare-rest : q ≡ p → (o : Ordering) → MatchOrdering o (r * d < t * b) (r * d ≡ t * b) (t * b < r * d)
      → MatchOrdering o (a * d < c * b) (a * d ≡ c * b) (c * b < a * d)
  compare-rest same Less is = let whole = ap (λ n. (b * d) * n) same in omega (arith, scaled, other_scaled)
  compare-rest same Equal is = let whole = ap (λ n. (b * d) * n) same in omega (arith, scaled, other_scaled)
  compare-rest same Greater is = let whole = ap (λ n. (b * d) * n) same in omega (arith, scaled, other_scaled)

-- where one of two rests is 0, they compare as their products do
pub compare-none : (b d r t : ℕ) → 0 < b → 0 < d → (r ≡ 0) ⊎ (t ≡ 0) → (o : Ordering) → MatchOrdering o (r < t) (r ≡ t) (t < r)
    → MatchOrdering o (r * d < t * b) (r * d ≡ t * b) (t * b < r * d)
compare-none b d r t some other (inl none) Less is =
    let more : b * 1 ≤ b * t = mul-le-mul_left b (omega arith) in
    let nothing : r * d ≡ 0 * d = ap (λ n. n * d) none in
    omega arith
compare-none b d r t some other (inr none) Less is = absurd (omega arith)
compare-none b d r t some other (inl none) Equal is =
    let nothing : r * d ≡ 0 * d = ap (λ n. n * d) none in
    let no : t * b ≡ 0 * b = ap (λ n. n * b) (omega arith) in
    omega arith
compare-none b d r t some other (inr none) Equal is =
    let nothing : r * d ≡ 0 * d = ap (λ n. n * d) (omega arith) in
    let no : t * b ≡ 0 * b = ap (λ n. n * b) none in
    omega arith
compare-none b d r t some other (inl none) Greater is = absurd (omega arith)
compare-none b d r t some other (inr none) Greater is =
    let more : d * 1 ≤ d * r = mul-le-mul_left d (omega arith) in
    let no : t * b ≡ 0 * b = ap (λ n. n * b) none in
    omega arith

-- turned over, as they are compared then
pub compare-turned : (b d r t : ℕ) (o : Ordering) → MatchOrdering o (d * r < b * t) (d * r ≡ b * t) (b * t < d * r)
    → MatchOrdering o (r * d < t * b) (r * d ≡ t * b) (t * b < r * d)
compare-turned b d r t Less is = omega arith
compare-turned b d r t Equal is = omega arith
compare-turned b d r t Greater is = omega arith

-- how a fraction and another one together compare with some halves, by how the first compares with what is left of them
pub compare-left : (l p u v h left : ℕ) (by : Ordering) → left + 2 * p ≡ h * v
    → MatchOrdering by (l * (2 * v) < left * u) (l * (2 * v) ≡ left * u) (left * u < l * (2 * v))
    → MatchOrdering by (2 * (v * l + u * p) < h * (u * v)) (2 * (v * l + u * p) ≡ h * (u * v)) (h * (u * v) < 2 * (v * l + u * p))
compare-left l p u v h left Less is found = let all : (left + 2 * p) * u ≡ h * v * u = ap (λ n. n * u) is in omega arith
compare-left l p u v h left Equal is found = let all : (left + 2 * p) * u ≡ h * v * u = ap (λ n. n * u) is in omega arith
compare-left l p u v h left Greater is found = let all : (left + 2 * p) * u ≡ h * v * u = ap (λ n. n * u) is in omega arith

pub compare-over : (l p u v h : ℕ) → 0 < u → h * v < 2 * p → h * (u * v) < 2 * (v * l + u * p)
compare-over l p u v h some over =
    let all : u * (h * v + 1) ≤ u * (2 * p) = mul-le-mul_left u (omega arith) in
    omega arith
