-- What windows that are read one after the other say of a range of times.
use Rattle.std.proofs.Common.{◌≡◌, ◌∙◌, ℕ, zero, suc, ◌+◌, ◌-◌, ◌^◌, ◌<◌, ◌≤◌, ℤ, ◌+ℤ◌, ap, ap₂, arith}
use Rattle.std.specs.Prelude.{FitsSigned, unsigned_abs}
use Rattle.std.proofs.lemmas.Int.{ints, clamps, to_z-of_z}
use Rattle.std.specs.Int.{w128}
use Rattle.ss_bounds.specs.Split.{IsSplit, SplitFigures, greatest_count, greatest_of, high_sum, least_count, least_of, low_sum, sum_interval}
use Rattle.ss_bounds.proofs.Held.{held, held-is, low_sum-small, sum-small}
use Rattle.ss_bounds.proofs.LeastLemmas.{high_sum-rest}
use Rattle.ss_bounds.proofs.Numbers.{times-down, times-up}
use Rattle.ss_summary.specs.Figures.{Figures, IsPossible}
use Rattle.ss_base.specs.Near.{IsNear}

least_of-near : (f : ℕ → ℤ) (a n b : ℕ) → ((x : ℕ) → a ≤ x → x ≤ a + n → unsigned_abs (f x) < b) → unsigned_abs (least_of f a n) < b
least_of-near f a zero b each = each a (omega arith) (omega arith)
least_of-near f a (suc n) b each =
    let rest = least_of-near f a n b (λ x from to. each x from (omega arith)) in
    let last = each (a + suc n) (omega arith) (omega arith) in
    omega (arith, ints, clamps)

greatest_of-near : (f : ℕ → ℤ) (a n b : ℕ) → ((x : ℕ) → a ≤ x → x ≤ a + n → unsigned_abs (f x) < b) → unsigned_abs (greatest_of f a n) < b
greatest_of-near f a zero b each = each a (omega arith) (omega arith)
greatest_of-near f a (suc n) b each =
    let rest = greatest_of-near f a n b (λ x from to. each x from (omega arith)) in
    let last = each (a + suc n) (omega arith) (omega arith) in
    omega (arith, ints, clamps)

-- the sums of a split window are far within 128 bits
module _ (s : SplitFigures) (split : IsSplit s) where
  pub counts-few : (least_count s ≤ 2 ^ 40) × (greatest_count s ≤ 2 ^ 40)
  counts-few =
      let low = split.count_low in
      let high = split.count_high in
      let ends = split.one_end in
      (omega arith, omega arith)

  high-near : (x : ℕ) → x ≤ s.count → unsigned_abs (high_sum s x) < 2 ^ 107
  high-near x within =
      let is = high_sum-rest s x within in
      let small = low_sum-small s split (s.count - x) (omega arith) in
      let all = sum-small s split in
      rw is (omega (arith, ints))

  within-count : least_count s + (greatest_count s - least_count s) ≤ s.count
  within-count =
      let room = split.room in
      let ends = split.one_end in
      let low = split.count_low in
      omega arith

  pub sums-near : IsNear (sum_interval s).0 × IsNear (sum_interval s).1
  unfolding sum_interval
  sums-near =
      let within = within-count in
      let lo = least_of-near (low_sum s) (least_count s) (greatest_count s - least_count s) (2 ^ 106) (λ x from to. low_sum-small s split x (omega arith)) in
      let hi = greatest_of-near (high_sum s) (least_count s) (greatest_count s - least_count s) (2 ^ 107) (λ x from to. high-near x (omega arith)) in
      (omega (arith, lo), omega (arith, hi))

-- and so is the sum of possible figures
pub sum-near : (f : Figures) → IsPossible f → unsigned_abs f.sum < 2 ^ 104
sum-near f possible =
    let low = possible.sum_low in
    let high = possible.sum_high in
    let least = times-down (f.count - 1) f.min (omega (arith, possible.count_high)) possible.min_fits in
    let greatest = times-up (f.count - 1) f.max (omega (arith, possible.count_high)) possible.max_fits in
    let min_fits = possible.min_fits in
    let max_fits = possible.max_fits in
    omega (arith, ints)

pub held-near : (z : ℤ) → IsNear z → held z ≡ z
held-near z near = to_z-of_z w128 z (omega (arith, ints))

pub near-held : (z : ℤ) → IsNear z → IsNear (held z)
near-held z near = rw held-near near

-- the sum of a whole window and of values of landmarks, as the code makes it
module _ (sum marked : ℤ) (near : unsigned_abs sum < 2 ^ 104) (few : unsigned_abs marked ≤ 2 ^ 87) where
  held-both : (held sum +ℤ held marked) ≡ (sum +ℤ marked)
  held-both =
      let sum_near : IsNear sum = omega (arith, ints, near) in
      let marked_near : IsNear marked = omega (arith, ints, few) in
      ap₂ (λ p q. p +ℤ q) (held-near sum sum_near) (held-near marked marked_near)

  both-near : IsNear (sum +ℤ marked)
  both-near = omega (arith, ints, near, few)

  pub known-fits : FitsSigned w128 (held sum +ℤ held marked)
  known-fits = rw held-both (omega (arith, ints, near, few))

  pub known-held : held (held sum +ℤ held marked) ≡ (sum +ℤ marked)
  known-held = ap held held-both ∙ held-near (sum +ℤ marked) both-near

  pub known-near : IsNear (held (held sum +ℤ held marked))
  known-near = rw known-held both-near

-- a sum of three such numbers as the code makes it
pub held-three : (a b d : ℤ) → IsNear a → IsNear b → IsNear d → held (held (held a +ℤ held b) +ℤ held d) ≡ ((a +ℤ b) +ℤ d)
held-three a b d near_a near_b near_d =
    let a_is = to_z-of_z w128 a (omega (arith, ints)) in
    let b_is = to_z-of_z w128 b (omega (arith, ints)) in
    let d_is = to_z-of_z w128 d (omega (arith, ints)) in
    let both = held-is _ (a +ℤ b) (ap₂ (λ p q. p +ℤ q) a_is b_is) (omega (arith, ints)) in
    held-is _ _ (ap₂ (λ p q. p +ℤ q) both d_is) (omega (arith, ints))

pub three : (a b d x y z : ℤ) → a ≡ x → b ≡ y → d ≡ z → ((a +ℤ b) +ℤ d) ≡ ((x +ℤ y) +ℤ z)
three a b d x y z first second third = ap₂ (λ p q. p +ℤ q) (ap₂ (λ p q. p +ℤ q) first second) third
