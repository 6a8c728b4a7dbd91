-- A window that two ranges side by side split: what both leave open together is no less than what the range of both does.
use Rattle.std.specs.Prelude.{◌≡◌, ℕ, ◌+◌, ◌-◌, ◌≤◌, ℤ, pos, ◌+ℤ◌, ◌*ℤ◌, ◌≤ℤ◌}
use Rattle.std.proofs.Common.{arith, inl, inr, refl, subst}
use Rattle.std.proofs.lemmas.Bool.{cases_lt}
use Rattle.std.proofs.lemmas.Int.{ints, clamps}
use Rattle.ss_bounds.proofs.LeastLemmas.{at_most-least_of, greatest_of-at_least, greatest_of-at_most, least_of-at_most}
use Rattle.ss_bounds.proofs.Numbers.{minus-times, plus-times}
use Rattle.ss_bounds.specs.Split.{SplitFigures, greatest_count, high_sum, least_count, low_sum, sum_interval}
use Rattle.ss_summary.proofs.Bounds.{times-le-times}

-- what the values of a window may be, however it is split
pub record AreValues (count : ℕ) (sum least greatest : ℤ) : Type 0 where
  pub more : 2 ≤ count
  pub order : least ≤ℤ greatest
  pub sum_low : (greatest +ℤ pos (count - 1) *ℤ least) ≤ℤ sum
  pub sum_high : sum ≤ℤ (least +ℤ pos (count - 1) *ℤ greatest)

module _ (c : ℕ) (s m M : ℤ) (are : AreValues c s m M) where
  -- so many ends in the range, and so many free times inside it and outside
  abbrev figures : ℕ → ℕ → ℕ → SplitFigures
  figures e i o = record { count = c; sum = s; min = m; max = M; ends = e; inside = i; outside = o }

  abbrev low : ℕ → ℤ
  low x = low_sum (figures 0 0 0) x

  abbrev high : ℕ → ℤ
  high x = high_sum (figures 0 0 0) x

  sum-above : (pos c *ℤ m) ≤ℤ s
  sum-above = omega (arith, ints, are.sum_low, are.order, minus-times c 1 m (omega (arith, are.more)))

  sum-below : s ≤ℤ (pos c *ℤ M)
  sum-below = omega (arith, ints, are.sum_high, are.order, minus-times c 1 M (omega (arith, are.more)))

  -- the least sums of so many values and of others are together no more than the least sum of both
  low-adds : (x y : ℕ) → x + y ≤ c → (low x +ℤ low y) ≤ℤ low (x + y)
  low-adds x y few =
      let order_x = times-le-times x m M are.order in
      let order_y = times-le-times y m M are.order in
      let both_m = plus-times x y m in
      let both_M = plus-times x y M in
      let rest_x = minus-times c x M (omega arith) in
      let rest_y = minus-times c y M (omega arith) in
      let rest = minus-times c (x + y) M few in
      omega (arith, ints, clamps, sum-below)

  high-adds : (x y : ℕ) → x + y ≤ c → high (x + y) ≤ℤ (high x +ℤ high y)
  high-adds x y few =
      let order_x = times-le-times x m M are.order in
      let order_y = times-le-times y m M are.order in
      let both_m = plus-times x y m in
      let both_M = plus-times x y M in
      let rest_x = minus-times c x m (omega arith) in
      let rest_y = minus-times c y m (omega arith) in
      let rest = minus-times c (x + y) m few in
      omega (arith, ints, clamps, sum-above)

  -- the ends and the free times of two ranges side by side, and the free times outside both; there is room for all values
  module _ (ea eb ia ib o : ℕ) (ends : ea + eb ≤ 2) (room : c - 2 ≤ ia + ib + o) where
    abbrev all : SplitFigures
    all = figures (ea + eb) (ia + ib) o

    abbrev first : SplitFigures
    first = figures ea ia (o + ib)

    abbrev second : SplitFigures
    second = figures eb ib (o + ia)

    count-order : least_count all ≤ greatest_count all
    count-order = omega arith

    pub least_count-adds : least_count first + least_count second ≤ least_count all
    least_count-adds = omega (arith, are.more)

    pub greatest_count-adds : greatest_count all ≤ greatest_count first + greatest_count second
    greatest_count-adds = omega arith

    -- so many of all its values are some of those that may lie in the first range, and some of those that may lie in the second
    abbrev IsParted : ℕ → Type 0
    IsParted x = (y : ℕ) × (z : ℕ) × (y + z ≡ x) × (least_count first ≤ y) × (y ≤ greatest_count first) × (least_count second ≤ z)
        × (z ≤ greatest_count second)

    parted : (x : ℕ) → least_count all ≤ x → x ≤ greatest_count all → IsParted x
    parted x fewest most = elim (cases_lt x (least_count first + greatest_count second)) [
      | inl few ↦ (
        least_count first,
        x - least_count first,
        omega (arith, least_count-adds),
        omega arith,
        omega arith,
        omega (arith, least_count-adds),
        omega arith,
      )
      | inr many ↦ (
        x - greatest_count second,
        greatest_count second,
        omega arith,
        omega arith,
        omega (arith, greatest_count-adds),
        omega arith,
        omega arith,
      )
    ]

    -- up to the greatest number of them
    up_to : (a b x : ℕ) → a ≤ x → x ≤ b → x - a ≤ b - a
    up_to a b x from to = omega arith

    least-at : (s' : SplitFigures) (x : ℕ) → least_count s' ≤ x → x ≤ greatest_count s' → (sum_interval s').0 ≤ℤ low_sum s' x
    unfolding sum_interval
    least-at s' x from to =
        let same : least_count s' + (x - least_count s') ≡ x = omega arith in
        subst (λ z. (sum_interval s').0 ≤ℤ low_sum s' z) same
        (least_of-at_most (low_sum s') (least_count s') (greatest_count s' - least_count s') (x - least_count s') (up_to (least_count s') _ x from to))

    greatest-at : (s' : SplitFigures) (x : ℕ) → least_count s' ≤ x → x ≤ greatest_count s' → high_sum s' x ≤ℤ (sum_interval s').1
    unfolding sum_interval
    greatest-at s' x from to =
        let same : least_count s' + (x - least_count s') ≡ x = omega arith in
        subst (λ z. high_sum s' z ≤ℤ (sum_interval s').1) same
        (greatest_of-at_least (high_sum s') (least_count s') (greatest_count s' - least_count s') (x - least_count s') (up_to (least_count s') _ x from to))

    below-each : (x : ℕ) → least_count all ≤ x → x ≤ greatest_count all → ((sum_interval first).0 +ℤ (sum_interval second).0) ≤ℤ low x
    below-each x from to =
        let part = parted x from to in
        let y = part.0 in
        let z = part.1 in
        let one = least-at first y part.3 part.4 in
        let two = least-at second z part.5 part.6 in
        let both = low-adds y z (omega (arith, part.2, are.more)) in
        let both : (low y +ℤ low z) ≤ℤ low x = subst (λ n. (low y +ℤ low z) ≤ℤ low n) part.2 both in
        omega (arith, ints, one, two, both)

    above-each : (x : ℕ) → least_count all ≤ x → x ≤ greatest_count all → high x ≤ℤ ((sum_interval first).1 +ℤ (sum_interval second).1)
    above-each x from to =
        let part = parted x from to in
        let y = part.0 in
        let z = part.1 in
        let one = greatest-at first y part.3 part.4 in
        let two = greatest-at second z part.5 part.6 in
        let both = high-adds y z (omega (arith, part.2, are.more)) in
        let both : high x ≤ℤ (high y +ℤ high z) = subst (λ n. high n ≤ℤ (high y +ℤ high z)) part.2 both in
        omega (arith, ints, one, two, both)

    pub sum_interval-adds : (((sum_interval first).0 +ℤ (sum_interval second).0) ≤ℤ (sum_interval all).0)
        × ((sum_interval all).1 ≤ℤ ((sum_interval first).1 +ℤ (sum_interval second).1))
    unfolding sum_interval
    sum_interval-adds = (
      at_most-least_of (low_sum all) (least_count all) (greatest_count all - least_count all) _
          (λ x from to. below-each x from (omega (arith, count-order))),
      greatest_of-at_most (high_sum all) (least_count all) (greatest_count all - least_count all) _
          (λ x from to. above-each x from (omega (arith, count-order))),
    )

  -- a window of which all lies in the range, as one that it splits
  module _ (i : ℕ) (room : c - 2 ≤ i) where
    abbrev whole : SplitFigures
    whole = figures 2 i 0

    pub least_count-whole : least_count whole ≡ c
    least_count-whole = omega (arith, are.more)

    pub greatest_count-whole : greatest_count whole ≡ c
    greatest_count-whole = omega (arith, are.more)

    low-whole : low c ≡ s
    low-whole =
        let none : c - c ≡ 0 = omega arith in
        rw none (omega (arith, ints, clamps, sum-above))

    high-whole : high c ≡ s
    high-whole =
        let none : c - c ≡ 0 = omega arith in
        rw none (omega (arith, ints, clamps, sum-below))

    pub sum_interval-whole : sum_interval whole ≡ (s, s)
    unfolding sum_interval
    sum_interval-whole =
        let none : greatest_count whole - least_count whole ≡ 0 = omega (arith, are.more) in
        rw (none, least_count-whole, low-whole, high-whole) refl
