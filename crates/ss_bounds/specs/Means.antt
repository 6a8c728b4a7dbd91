-- What the values in a range may have as their mean. Some are known. Of each split window any number of values that it may have there
-- do lie there, with any sum that so many may have. A sum over its count is a mean, if the count isn't 0.
use Rattle.std.specs.Prelude.{◌≡◌, ℕ, zero, suc, ◌+◌, ◌-◌, ◌≤◌, Bool, ◌==◌, nat_le, if◌then◌else◌, ℤ, ◌+ℤ◌, List, [], ◌∷◌, sum_by, Option, None, Some}
use Rattle.std.specs.Option.{option_map}
use Rattle.ss_bounds.specs.declared.fraction.Fraction.{Fraction}
use Rattle.ss_bounds.specs.declared.mean.Mean.{Mean}
use Rattle.ss_bounds.specs.declared.mean.Mean.TheVariants.{Nothing, Sure, Maybe}
use Rattle.ss_bounds.specs.Fractions.{at_most, at_least, lowest}
use Rattle.ss_bounds.specs.Split.{SplitFigures, least_count, greatest_count, low_sum, high_sum}

-- the sum and the count of some values and of others together
abbrev pub with_values : Fraction → Fraction → Fraction
with_values a b = record { over = a.over +ℤ b.over; under = a.under + b.under }

-- x values of a split window, with the sum that f gives to so many
abbrev pub so_many : (ℕ → ℤ) → ℕ → Fraction
so_many f x = record { over = f x; under = x }

-- the mean of some values, by their sum and count
abbrev pub mean_of : Fraction → Option Fraction
mean_of values = if values.under == 0 then None else Some values

-- of two means the better one, by an order; one alone where the other is missing
abbrev pub better : (Fraction → Fraction → Bool) → Option Fraction → Option Fraction → Option Fraction
better order None b = b
better order (Some a) None = Some a
better order (Some a) (Some b) = if order a b then Some a else Some b

-- the best of f(a), f(a + 1), .., f(a + n)
abbrev pub best_of : (Fraction → Fraction → Bool) → (ℕ → Option Fraction) → ℕ → ℕ → Option Fraction
best_of order f a zero = f a
best_of order f a (suc n) = better order (best_of order f a n) (f (a + suc n))

-- the best mean of what is known with each number of values of each split window, where `sum` gives each number its sum
abbrev pub best_mean : (Fraction → Fraction → Bool) → (SplitFigures → ℕ → ℤ) → Fraction → List SplitFigures → Option Fraction
best_mean order sum known [] = mean_of known
best_mean order sum known (s ∷ splits) =
    best_of order (λ x. best_mean order sum (with_values known (so_many (sum s) x)) splits) (least_count s) (greatest_count s - least_count s)

-- some values have this sum and count: those that are known, and of each split window a number of values that may lie in the range, with
-- the sum that `sum` gives so many
abbrev pub AddsUpTo : (SplitFigures → ℕ → ℤ) → Fraction → List SplitFigures → Fraction → Type 0
AddsUpTo sum known [] values = known ≡ values
AddsUpTo sum known (s ∷ splits) values =
    (x : ℕ) × (least_count s ≤ x) × (x ≤ greatest_count s) × AddsUpTo sum (with_values known (so_many (sum s) x)) splits values

-- the least mean, and the greatest
abbrev pub least_mean : Fraction → List SplitFigures → Option Fraction
least_mean = best_mean at_most low_sum

abbrev pub greatest_mean : Fraction → List SplitFigures → Option Fraction
greatest_mean = best_mean at_least high_sum

-- from the least to the greatest; whether some value lies there for sure
abbrev pub mean_from : Bool → Option Fraction → Option Fraction → Mean
mean_from sure None hi = Nothing
mean_from sure (Some lo) None = Nothing
mean_from sure (Some lo) (Some hi) = if sure then Sure lo hi else Maybe lo hi

-- what is known of the mean, in lowest terms, from the sum and the count of what is known and from the split windows
unfoldable pub mean_interval : Fraction → List SplitFigures → Mean
mean_interval known splits =
    mean_from (nat_le 1 (known.under + sum_by least_count splits))
    (option_map lowest (least_mean known splits)) (option_map lowest (greatest_mean known splits))
