-- How an end of a mean is found: of the numbers of values of a split window only some matter, its corners.
use Rattle.std.specs.Prelude.{◌≡◌, ℕ, ◌+◌, ◌^◌, ◌<◌, ◌≤◌, min, max, Bool, ℤ, unsigned_abs, Option, None, Some}
use Rattle.ss_bounds.specs.declared.fraction.Fraction.{Fraction}
use Rattle.ss_bounds.specs.declared.corners.Corners.{Corners}
use Rattle.ss_bounds.specs.declared.side.Side.{Side}
use Rattle.ss_bounds.specs.declared.side.Side.TheVariants.{Least, Greatest}
use Rattle.ss_bounds.specs.Fractions.{at_most, at_least, IsSame}
use Rattle.ss_bounds.specs.Lines.{IsStraight}
use Rattle.ss_bounds.specs.Means.{better, mean_of, so_many, with_values}
use Rattle.ss_bounds.specs.Split.{SplitFigures, IsSplit, least_count, greatest_count, low_sum, high_sum}

-- which of two means is the better one, and which sum so many values have there
abbrev pub order_of : Side → Fraction → Fraction → Bool
order_of Least = at_most
order_of Greatest = at_least

abbrev pub sum_at : Side → SplitFigures → ℕ → ℤ
sum_at Least = low_sum
sum_at Greatest = high_sum

-- two numbers are one or neighbours, and f is straight from a to the first, and from the second to b
pub record AreBends (f : ℕ → ℤ) (a b p q : ℕ) : Type 0 where
  pub from : a ≤ p
  pub to : q ≤ b
  pub order : p ≤ q
  pub beside : q ≤ p + 1
  pub first : (step : ℤ) × IsStraight f step a p
  pub second : (step : ℤ) × IsStraight f step q b

-- the corners of f from a to b: the ends, the first number that isn't 0, and its bends
pub record AreCorners (f : ℕ → ℤ) (a b : ℕ) (c : Corners) : Type 0 where
  pub order : a ≤ b
  pub fewest : c.fewest ≡ so_many f a
  pub some : c.some ≡ so_many f (min (max a 1) b)
  pub before : c.before ≡ so_many f c.before.under
  pub after : c.after ≡ so_many f c.after.under
  pub most : c.most ≡ so_many f b
  pub bends : AreBends f a b c.before.under c.after.under

-- sums and counts of at most as many values as a window holds
pub record IsSmall (values : Fraction) : Type 0 where
  pub over : unsigned_abs values.over ≤ 2 ^ 107
  pub under : values.under ≤ 2 ^ 40

pub record AreSmall (c : Corners) : Type 0 where
  pub fewest : IsSmall c.fewest
  pub some : IsSmall c.some
  pub before : IsSmall c.before
  pub after : IsSmall c.after
  pub most : IsSmall c.most

-- the best of f at the corners
abbrev pub best_at : (Fraction → Fraction → Bool) → (Fraction → Option Fraction) → Corners → Option Fraction
best_at order f c =
    better order (better order (better order (f c.fewest) (f c.some)) (better order (f c.before) (f c.after))) (f c.most)

-- the best mean of what is known with the values of the windows that there are, at their corners
abbrev pub best_of_corners : Side → Fraction → Option Corners → Option Corners → Option Fraction
best_of_corners side known None None = mean_of known
best_of_corners side known (Some c) None = best_at (order_of side) (λ v. mean_of (with_values known v)) c
best_of_corners side known None (Some d) = best_at (order_of side) (λ v. mean_of (with_values known v)) d
best_of_corners side known (Some c) (Some d) =
    best_at (order_of side) (λ v. best_at (order_of side) (λ w. mean_of (with_values (with_values known v) w)) d) c

-- the corners of a split window, if there is one
abbrev pub AreCornersOf : Side → Option SplitFigures → Option Corners → Type 0
AreCornersOf side None None = Unit {0}
AreCornersOf side None (Some c) = ⊥
AreCornersOf side (Some s) None = ⊥
AreCornersOf side (Some s) (Some c) = IsSplit s × AreCorners (sum_at side s) (least_count s) (greatest_count s) c

-- two means are the same number, or both are missing
abbrev pub AreSame : Option Fraction → Option Fraction → Type 0
AreSame None None = Unit {0}
AreSame None (Some b) = ⊥
AreSame (Some a) None = ⊥
AreSame (Some a) (Some b) = (0 < a.under) × (0 < b.under) × IsSame a b

-- how many values lie in the range for sure, of a split window if there is one
abbrev pub fewest_of : Option SplitFigures → ℕ
fewest_of None = 0
fewest_of (Some s) = least_count s
