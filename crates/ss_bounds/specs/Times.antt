-- The times of a range, and what they make of a window that the range splits. A test says which times are free: those that
-- no landmark covers. Each value of a window is at a free time.
use Rattle.std.specs.Prelude.{ℕ, ◌+◌, ◌-◌, Bool, ◌&&◌, not, nat_le, if◌then◌else◌, ℤ}
use Rattle.std.specs.List.{count_by, range_with_len}
use Rattle.ss_bounds.specs.Split.{SplitFigures}

-- the time t is one of from..=to
abbrev pub lies_in : ℕ → ℕ → ℕ → Bool
lies_in from to t = nat_le from t && nat_le t to

-- how many of the times p..=q pass a test
abbrev pub times : (ℕ → Bool) → ℕ → ℕ → ℕ
times test p q = count_by test (range_with_len p (q + 1 - p))

-- how many of two times lie in from..=to
abbrev pub ends_in : ℕ → ℕ → ℕ → ℕ → ℕ
ends_in from to first last = (if lies_in from to first then 1 else 0) + (if lies_in from to last then 1 else 0)

-- how many free times strictly between two times lie in from..=to, and how many outside it
abbrev pub times_inside : (ℕ → Bool) → ℕ → ℕ → ℕ → ℕ → ℕ
times_inside free from to first last = times (λ t. free t && lies_in from to t) (first + 1) (last - 1)

abbrev pub times_outside : (ℕ → Bool) → ℕ → ℕ → ℕ → ℕ → ℕ
times_outside free from to first last = times (λ t. free t && not (lies_in from to t)) (first + 1) (last - 1)

-- the figures of a window as the range from..=to splits it: from its count, sum, least and greatest value, first and last
-- time
abbrev pub split_of : (ℕ → Bool) → ℕ → ℕ → ℕ → ℤ → ℤ → ℤ → ℕ → ℕ → SplitFigures
split_of free from to count sum min max first last = record {
  count = count;
  sum = sum;
  min = min;
  max = max;
  ends = ends_in from to first last;
  inside = times_inside free from to first last;
  outside = times_outside free from to first last;
}
