-- The values of a split window can be parted at the least and at the greatest sum of any number of them.
use Rattle.std.specs.Prelude.{◌≡◌, ℕ, ◌-◌, ◌<◌, ◌≤◌, ℤ, pos, ◌+ℤ◌, ◌-ℤ◌, ◌*ℤ◌, ◌≤ℤ◌}
use Rattle.std.proofs.Common.{arith, inl, inr}
use Rattle.std.proofs.lemmas.Bool.{cases_lt}
use Rattle.std.proofs.lemmas.Int.{ints, clamps}
use Rattle.ss_summary.proofs.Bounds.{times-le-times}
use Rattle.ss_bounds.specs.Split.{SplitFigures, IsSplit, low_sum, high_sum}
use Rattle.ss_bounds.specs.Parted.{CanBeParted}
use Rattle.ss_bounds.proofs.Numbers.{minus-times}

module _ (s : SplitFigures) (split : IsSplit s) (x : ℕ) (few : x < s.count) where
  -- the sum of all, against that of as many of the greatest or of the least, but for one
  sum-high : s.sum ≤ℤ (s.min +ℤ ((pos s.count *ℤ s.max) -ℤ s.max))
  sum-high =
      let high = split.sum_high in
      let rest = minus-times s.count 1 s.max (omega arith) in
      omega (arith, ints)

  sum-low : (s.max +ℤ ((pos s.count *ℤ s.min) -ℤ s.min)) ≤ℤ s.sum
  sum-low =
      let low = split.sum_low in
      let rest = minus-times s.count 1 s.min (omega arith) in
      omega (arith, ints)

  -- as many of one value as there are others, without one of these, and x without one
  others-times : (a : ℤ) → (pos (s.count - x) *ℤ a) ≡ ((pos s.count *ℤ a) -ℤ (pos x *ℤ a))
  others-times a = minus-times s.count x a (omega arith)

  others-but_one : (a : ℤ) → (pos (s.count - x - 1) *ℤ a) ≡ (((pos s.count *ℤ a) -ℤ (pos x *ℤ a)) -ℤ a)
  others-but_one a =
      let one = minus-times (s.count - x) 1 a (omega arith) in
      let all = others-times a in
      omega (arith, ints)

  but_one : (a : ℤ) → 1 ≤ x → (pos (x - 1) *ℤ a) ≡ ((pos x *ℤ a) -ℤ a)
  but_one a some = let one = minus-times x 1 a some in omega (arith, ints)

  none-times : (a : ℤ) → x ≡ 0 → (pos x *ℤ a) ≡ pos 0
  none-times a none = rw none (omega (arith, ints))

  pub low_sum-high_sum : low_sum s x ≤ℤ high_sum s x
  low_sum-high_sum =
      let order = split.order in
      let inside = times-le-times x s.min s.max order in
      let outside = times-le-times (s.count - x) s.min s.max order in
      let least = others-times s.min in
      let greatest = others-times s.max in
      omega (arith, ints, clamps, sum-high, sum-low)

  -- at the least sum the greatest value is outside, and the least one inside, if there is any
  low_sum-least : 1 ≤ x → low_sum s x ≤ℤ (s.min +ℤ (pos (x - 1) *ℤ s.max))
  low_sum-least some =
      let order = times-le-times (x - 1) s.min s.max split.order in
      let least = but_one s.min some in
      let greatest = but_one s.max some in
      let others = others-times s.max in
      omega (arith, ints, clamps, sum-high)

  low_sum-least_outside : x ≡ 0 → (s.sum -ℤ low_sum s x) ≤ℤ (s.min +ℤ (pos (s.count - x - 1) *ℤ s.max))
  low_sum-least_outside none =
      let least = none-times s.min none in
      let greatest = none-times s.max none in
      let others = others-but_one s.max in
      omega (arith, ints, clamps, sum-high)

  low_sum-greatest : (s.max +ℤ (pos (s.count - x - 1) *ℤ s.min)) ≤ℤ (s.sum -ℤ low_sum s x)
  low_sum-greatest =
      let order = times-le-times (s.count - x - 1) s.min s.max split.order in
      let least = others-but_one s.min in
      let greatest = others-but_one s.max in
      let others = others-times s.max in
      omega (arith, ints, clamps, sum-low)

  pub CanBeParted-low_sum : CanBeParted s x (low_sum s x)
  CanBeParted-low_sum =
      let order = split.order in
      let inside = times-le-times x s.min s.max order in
      let outside = times-le-times (s.count - x) s.min s.max order in
      let least = others-times s.min in
      let greatest = others-times s.max in
      record {
        few = few;
        inside = record { low = omega (arith, ints, clamps); high = omega (arith, ints, clamps, sum-high) };
        outside = record { low = omega (arith, ints, clamps, sum-low); high = omega (arith, ints, clamps) };
        least = elim (cases_lt 0 x) [
          | inl some ↦ inl (record { some = omega arith; high = low_sum-least (omega arith) })
          | inr none ↦ inr (record { some = omega arith; high = low_sum-least_outside (omega arith) })
        ];
        greatest = inr (record { some = omega arith; low = low_sum-greatest });
      }

  -- at the greatest sum it is the other way round
  high_sum-greatest : 1 ≤ x → (s.max +ℤ (pos (x - 1) *ℤ s.min)) ≤ℤ high_sum s x
  high_sum-greatest some =
      let order = times-le-times (x - 1) s.min s.max split.order in
      let least = but_one s.min some in
      let greatest = but_one s.max some in
      let others = others-times s.min in
      omega (arith, ints, clamps, sum-low)

  high_sum-greatest_outside : x ≡ 0 → (s.max +ℤ (pos (s.count - x - 1) *ℤ s.min)) ≤ℤ (s.sum -ℤ high_sum s x)
  high_sum-greatest_outside none =
      let least = none-times s.min none in
      let greatest = none-times s.max none in
      let others = others-but_one s.min in
      omega (arith, ints, clamps, sum-low)

  high_sum-least : (s.sum -ℤ high_sum s x) ≤ℤ (s.min +ℤ (pos (s.count - x - 1) *ℤ s.max))
  high_sum-least =
      let order = times-le-times (s.count - x - 1) s.min s.max split.order in
      let least = others-but_one s.min in
      let greatest = others-but_one s.max in
      let others = others-times s.min in
      omega (arith, ints, clamps, sum-high)

  pub CanBeParted-high_sum : CanBeParted s x (high_sum s x)
  CanBeParted-high_sum =
      let order = split.order in
      let inside = times-le-times x s.min s.max order in
      let outside = times-le-times (s.count - x) s.min s.max order in
      let least = others-times s.min in
      let greatest = others-times s.max in
      record {
        few = few;
        inside = record { low = omega (arith, ints, clamps, sum-low); high = omega (arith, ints, clamps) };
        outside = record { low = omega (arith, ints, clamps); high = omega (arith, ints, clamps, sum-high) };
        least = inr (record { some = omega arith; high = high_sum-least });
        greatest = elim (cases_lt 0 x) [
          | inl some ↦ inl (record { some = omega arith; low = high_sum-greatest (omega arith) })
          | inr none ↦ inr (record { some = omega arith; low = high_sum-greatest_outside (omega arith) })
        ];
      }
