-- How many values of a split window, as the least such number, attain an end of the mean in a range.
use Rattle.std.specs.Prelude.{ℕ, zero, suc, ◌-◌, min, Bool, true, false, ◌&&◌, if◌then◌else◌, ℤ, List, ◌∷◌, Option, None, Some}
use Rattle.std.specs.Option.{option_map}
use Rattle.ss_bounds.specs.declared.corners.Corners.{Corners}
use Rattle.ss_bounds.specs.declared.fraction.Fraction.{Fraction}
use Rattle.ss_bounds.specs.Fractions.{at_most, at_least, lowest}
use Rattle.ss_bounds.specs.Means.{best_mean, mean_of, so_many, with_values}
use Rattle.ss_bounds.specs.Split.{SplitFigures, least_count, greatest_count, low_sum, high_sum}

-- the mean of some values, by their sum and count, in lowest terms
abbrev pub lowest_mean : Fraction → Option Fraction
lowest_mean values = option_map lowest (mean_of values)

-- two means are the same number, or both are missing
abbrev pub is_same_mean : Option Fraction → Option Fraction → Bool
is_same_mean None None = true
is_same_mean None (Some b) = false
is_same_mean (Some a) None = false
is_same_mean (Some a) (Some b) = at_most a b && at_most b a

-- the first of a, a + 1, .., a + n that passes a test, and a + n where none does
abbrev pub first_passing : (ℕ → Bool) → ℕ → ℕ → ℕ
first_passing test a zero = a
first_passing test a (suc n) = if test a then a else first_passing test (suc a) n

-- with x values of the first window the best mean is still the best one of all
abbrev pub attains : (Fraction → Fraction → Bool) → (SplitFigures → ℕ → ℤ) → Fraction → SplitFigures → List SplitFigures → ℕ → Bool
attains order sum known s splits x =
    is_same_mean (best_mean order sum (with_values known (so_many (sum s) x)) splits) (best_mean order sum known (s ∷ splits))

-- the least number of the first window's values in the range with which the least mean of all is attained, beside what is known and some
-- numbers of values of the other windows; and the same of the greatest mean
unfoldable pub least_mean_at : Fraction → SplitFigures → List SplitFigures → ℕ
least_mean_at known s splits = first_passing (attains at_most low_sum known s splits) (least_count s) (greatest_count s - least_count s)

unfoldable pub greatest_mean_at : Fraction → SplitFigures → List SplitFigures → ℕ
greatest_mean_at known s splits = first_passing (attains at_least high_sum known s splits) (least_count s) (greatest_count s - least_count s)

-- the lesser of a number of values and that of a corner, if this passes a test
abbrev pub sooner : Bool → Fraction → ℕ → ℕ
sooner passes v x = if passes then min x v.under else x

-- the least number of values of the corners that pass a test, and the most where none does
abbrev pub first_corner : (Fraction → Bool) → Corners → ℕ
first_corner test c =
    sooner (test c.fewest) c.fewest (sooner (test c.some) c.some
    (sooner (test c.before) c.before (sooner (test c.after) c.after c.most.under)))
