-- The least and the greatest of a function over a stretch of whole numbers, and the sums of a split window over each number
-- of values.
use Rattle.std.specs.Prelude.{◌≡◌, ℕ, zero, suc, ◌+◌, ◌-◌, ◌^◌, ◌<◌, ◌≤◌, ℤ, ◌-ℤ◌, ◌≤ℤ◌, FitsSigned, unsigned_abs}
use Rattle.std.specs.Int.{w128}
use Rattle.std.proofs.Common.{ap, ap₂, arith, inl, inr, ◌∙◌}
use Rattle.std.proofs.lemmas.Bool.{cases_lt}
use Rattle.std.proofs.lemmas.Int.{ints, clamps, to_z-of_z}
use Rattle.ss_bounds.specs.Split.{SplitFigures, IsSplit, low_sum, high_sum, least_of, greatest_of, least_count, greatest_count, count_interval, sum_interval}
use Rattle.ss_bounds.specs.Lines.{IsLeast}
use Rattle.ss_bounds.proofs.Held.{held, low_sum-small, sum-fits, sum-small}

-- the least of f is at most each of its values, and the greatest at least
pub least_of-at_most : (f : ℕ → ℤ) (a n d : ℕ) → d ≤ n → least_of f a n ≤ℤ f (a + d)
least_of-at_most f a zero d within =
    let same : a + d ≡ a = omega arith in rw same (omega (arith, ints))
least_of-at_most f a (suc n) d within = elim (cases_lt d (suc n)) [
  | inl before ↦ (let rest = least_of-at_most f a n d (omega arith) in omega (arith, ints, clamps))
  | inr last ↦ (let same : d ≡ suc n = omega arith in rw same (omega (arith, ints, clamps)))
]

pub greatest_of-at_least : (f : ℕ → ℤ) (a n d : ℕ) → d ≤ n → f (a + d) ≤ℤ greatest_of f a n
greatest_of-at_least f a zero d within =
    let same : a + d ≡ a = omega arith in rw same (omega (arith, ints))
greatest_of-at_least f a (suc n) d within = elim (cases_lt d (suc n)) [
  | inl before ↦ (let rest = greatest_of-at_least f a n d (omega arith) in omega (arith, ints, clamps))
  | inr last ↦ (let same : d ≡ suc n = omega arith in rw same (omega (arith, ints, clamps)))
]

-- a number that is at most each value of f is at most the least, and likewise
pub at_most-least_of : (f : ℕ → ℤ) (a n : ℕ) (v : ℤ) → ((x : ℕ) → a ≤ x → x ≤ a + n → v ≤ℤ f x) → v ≤ℤ least_of f a n
at_most-least_of f a zero v each = each a (omega arith) (omega arith)
at_most-least_of f a (suc n) v each =
    let rest = at_most-least_of f a n v (λ x from to. each x from (omega arith)) in
    let last = each (a + suc n) (omega arith) (omega arith) in
    omega (arith, ints, clamps)

pub greatest_of-at_most : (f : ℕ → ℤ) (a n : ℕ) (v : ℤ) → ((x : ℕ) → a ≤ x → x ≤ a + n → f x ≤ℤ v) → greatest_of f a n ≤ℤ v
greatest_of-at_most f a zero v each = each a (omega arith) (omega arith)
greatest_of-at_most f a (suc n) v each =
    let rest = greatest_of-at_most f a n v (λ x from to. each x from (omega arith)) in
    let last = each (a + suc n) (omega arith) (omega arith) in
    omega (arith, ints, clamps)

both-ways : (a b : ℤ) → a ≤ℤ b → b ≤ℤ a → a ≡ b
both-ways a b first second = omega (arith, ints)

-- what is the least of f is its least value
pub IsLeast-least_of : (f : ℕ → ℤ) (a b n : ℕ) (v : ℤ) → a + n ≡ b → IsLeast f a b v → v ≡ least_of f a n
IsLeast-least_of f a b n v end least =
    let at = least.reached in
    let reached = least_of-at_most f a n (at.0 - a) (omega (arith, at.1, at.2)) in
    let same : a + (at.0 - a) ≡ at.0 = omega (arith, at.1) in
    let reached : least_of f a n ≤ℤ v = rw (ap f same ∙ at.3) at reached in
    both-ways _ _ (at_most-least_of f a n v (λ x from to. least.at_most x from (omega arith))) reached

-- where x values have the greatest sum, the others have the least
pub high_sum-rest : (s : SplitFigures) (x : ℕ) → x ≤ s.count → high_sum s x ≡ (s.sum -ℤ low_sum s (s.count - x))
high_sum-rest s x within =
    let same : s.count - (s.count - x) ≡ x = omega arith in
    rw same (omega (arith, ints, clamps))

-- so the greatest sum of any number of values from a to b leaves the least one of those of the others
pub IsLeast-greatest_of : (s : SplitFigures) (a b n : ℕ) (rest : ℤ) → a + n ≡ b → b ≤ s.count
    → IsLeast (low_sum s) (s.count - b) (s.count - a) rest → (s.sum -ℤ rest) ≡ greatest_of (high_sum s) a n
IsLeast-greatest_of s a b n rest end within least =
    let at = least.reached in
    let x = s.count - at.0 in
    let back : s.count - x ≡ at.0 = omega (arith, at.1, at.2) in
    let place : a + (x - a) ≡ x = omega (arith, at.1, at.2) in
    let high = high_sum-rest s x (omega arith) in
    let value : high_sum s x ≡ (s.sum -ℤ rest) = high ∙ ap (λ z. s.sum -ℤ z) (ap (low_sum s) back ∙ at.3) in
    let reached = greatest_of-at_least (high_sum s) a n (x - a) (omega (arith, at.1, at.2)) in
    let reached : (s.sum -ℤ rest) ≤ℤ greatest_of (high_sum s) a n =
    rw (ap (high_sum s) place ∙ value) at reached in
    both-ways _ _ reached (greatest_of-at_most (high_sum s) a n (s.sum -ℤ rest) (λ y from to.
    let low = least.at_most (s.count - y) (omega arith) (omega arith) in
    let is = high_sum-rest s y (omega arith) in
    omega (arith, ints)))

-- what the code computes of a split window's sums is their interval
module _ (s : SplitFigures) (split : IsSplit s) (fewest most : ℕ) (lo rest : ℤ) (counts : (fewest, most) ≡ count_interval s)
    (least_rest : IsLeast (low_sum s) (s.count - most) (s.count - fewest) rest) where
  pub difference-fits : FitsSigned w128 rest → FitsSigned w128 (held s.sum -ℤ held rest)
  difference-fits fits =
      let at = least_rest.reached in
      let small = low_sum-small s split at.0 (omega (arith, at.2)) in
      let small : unsigned_abs rest < 2 ^ 106 = rw at.3 at small in
      let all = sum-small s split in
      let sum_is = to_z-of_z w128 s.sum (sum-fits s split) in
      let rest_is = to_z-of_z w128 rest fits in
      rw (sum_is, rest_is) (omega (arith, ints))

  pub computed-sums : FitsSigned w128 rest → IsLeast (low_sum s) fewest most lo → FitsSigned w128 lo
      → (held lo, held (held s.sum -ℤ held rest)) ≡ sum_interval s
  unfolding sum_interval
  computed-sums rest_fits least_lo lo_fits =
      let few : fewest ≡ least_count s = ap (λ (p : ℕ × ℕ). p.0) counts in
      let many : most ≡ greatest_count s = ap (λ (p : ℕ × ℕ). p.1) counts in
      let room = split.room in
      let ends = split.one_end in
      let low = split.count_low in
      let order : least_count s + (greatest_count s - least_count s) ≡ greatest_count s = omega arith in
      let within : greatest_count s ≤ s.count = omega arith in
      let sum_is = to_z-of_z w128 s.sum (sum-fits s split) in
      let rest_is = to_z-of_z w128 rest rest_fits in
      let difference = to_z-of_z w128 _ (difference-fits rest_fits) in
      let first = to_z-of_z w128 lo lo_fits
      ∙ IsLeast-least_of (low_sum s) (least_count s) (greatest_count s) (greatest_count s - least_count s) lo order (rw (few, many) at least_lo) in
      let second = difference ∙ ap₂ (λ p q. p -ℤ q) sum_is rest_is
      ∙ IsLeast-greatest_of s (least_count s) (greatest_count s) (greatest_count s - least_count s) rest order within (rw (few, many) at least_rest) in
      λ i. (first i, second i)
