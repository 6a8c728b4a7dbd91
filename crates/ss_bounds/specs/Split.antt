-- A split window: of its values only those with times in a range are asked for, and they aren't kept one by one. What is
-- known is the window's summary, and how many times there were for the values.
use Rattle.std.specs.Prelude.{ℕ, zero, suc, ◌+◌, ◌-◌, ◌≤◌, min, ℤ, pos, ◌+ℤ◌, ◌-ℤ◌, ◌*ℤ◌, ◌≤ℤ◌, FitsSigned}
use Rattle.std.specs.Int.{w64, int_min, int_max}
use Rattle.ss_base.specs.declared.limits.TheConstants.{LAST_TIME, MOST_VALUES}

-- the figures of a split window: the count, sum, least and greatest of all its values; how many of its first and last time
-- lie in the range; and how many free times strictly between those two lie in the range, and outside it
pub record SplitFigures : Type 0 where
  pub count : ℕ
  pub sum : ℤ
  pub min : ℤ
  pub max : ℤ
  pub ends : ℕ
  pub inside : ℕ
  pub outside : ℕ

-- The figures are those of a window that a range may split.
pub record IsSplit (s : SplitFigures) : Type 0 where
  -- two values or more, of 64 bits each
  pub count_low : 2 ≤ s.count
  pub count_high : s.count ≤ MOST_VALUES
  pub min_fits : FitsSigned w64 s.min
  pub max_fits : FitsSigned w64 s.max
  -- some values of this count between the least and the greatest have this sum
  pub order : s.min ≤ℤ s.max
  pub sum_low : (s.max +ℤ pos (s.count - 1) *ℤ s.min) ≤ℤ s.sum
  pub sum_high : s.sum ≤ℤ (s.min +ℤ pos (s.count - 1) *ℤ s.max)
  -- the range doesn't hold both ends
  pub one_end : s.ends ≤ 1
  pub inside_high : s.inside ≤ LAST_TIME
  pub outside_high : s.outside ≤ LAST_TIME
  -- there is a time for each value between the first and the last
  pub room : s.count - 2 ≤ s.inside + s.outside

-- the least and the greatest number of its values that may lie in the range
abbrev pub least_count : SplitFigures → ℕ
least_count s = s.ends + (s.count - 2 - s.outside)

abbrev pub greatest_count : SplitFigures → ℕ
greatest_count s = s.ends + min (s.count - 2) s.inside

-- x values in the range have at least this sum: each is at least the least, and each of the others at most the greatest
abbrev pub low_sum : SplitFigures → ℕ → ℤ
low_sum s x = int_max (pos x *ℤ s.min) (s.sum -ℤ (pos (s.count - x) *ℤ s.max))

-- and at most this one
abbrev pub high_sum : SplitFigures → ℕ → ℤ
high_sum s x = int_min (pos x *ℤ s.max) (s.sum -ℤ (pos (s.count - x) *ℤ s.min))

-- the least of f(a), f(a + 1), .., f(a + n), and the greatest
abbrev pub least_of : (ℕ → ℤ) → ℕ → ℕ → ℤ
least_of f a zero = f a
least_of f a (suc n) = int_min (least_of f a n) (f (a + suc n))

abbrev pub greatest_of : (ℕ → ℤ) → ℕ → ℕ → ℤ
greatest_of f a zero = f a
greatest_of f a (suc n) = int_max (greatest_of f a n) (f (a + suc n))

-- from how many to how many values may lie in the range
abbrev pub count_interval : SplitFigures → ℕ × ℕ
count_interval s = (least_count s, greatest_count s)

-- from which to which sum: the least and the greatest over every number of values that may lie in the range
unfoldable pub sum_interval : SplitFigures → ℤ × ℤ
sum_interval s =
    let more = greatest_count s - least_count s in
    (least_of (low_sum s) (least_count s) more, greatest_of (high_sum s) (least_count s) more)
