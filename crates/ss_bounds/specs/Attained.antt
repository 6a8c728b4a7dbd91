-- How many values of a split window, as the least such number, attain an end of its sum in a range.
use Rattle.std.specs.Prelude.{ℕ, zero, suc, ◌-◌, ◌<◌, ◌≤◌, if◌then◌else◌, ℤ, ◌≤ℤ◌, ◌<ℤ◌}
use Rattle.std.specs.Ordering.{int_eq}
use Rattle.ss_bounds.specs.Split.{SplitFigures, least_count, greatest_count, low_sum, high_sum, sum_interval}

-- the first of a, a + 1, .., a + n at which f is v, and a + n where it is v at none of them
abbrev pub first_at : (ℕ → ℤ) → ℤ → ℕ → ℕ → ℕ
first_at f v a zero = a
first_at f v a (suc n) = if int_eq (f a) v then a else first_at f v (suc a) n

-- the least number of values that may lie in the range with the least sum of all, and with the greatest
unfoldable pub least_sum_at : SplitFigures → ℕ
least_sum_at s = first_at (low_sum s) (sum_interval s).0 (least_count s) (greatest_count s - least_count s)

unfoldable pub greatest_sum_at : SplitFigures → ℕ
greatest_sum_at s = first_at (high_sum s) (sum_interval s).1 (least_count s) (greatest_count s - least_count s)

-- x is the first of a to b at which f is least
pub record IsFirstLeast (f : ℕ → ℤ) (a b x : ℕ) : Type 0 where
  pub from : a ≤ x
  pub to : x ≤ b
  pub at_most : (y : ℕ) → a ≤ y → y ≤ b → f x ≤ℤ f y
  pub first : (y : ℕ) → a ≤ y → y < x → f x <ℤ f y

-- x is the first of a to b at which f is greatest
pub record IsFirstGreatest (f : ℕ → ℤ) (a b x : ℕ) : Type 0 where
  pub from : a ≤ x
  pub to : x ≤ b
  pub at_least : (y : ℕ) → a ≤ y → y ≤ b → f y ≤ℤ f x
  pub first : (y : ℕ) → a ≤ y → y < x → f y <ℤ f x
