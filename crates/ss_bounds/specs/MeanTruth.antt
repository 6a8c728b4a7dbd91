-- What is true of the mean of the values in a range, and how exact the interval is.
use Rattle.std.specs.Prelude.{◌≡◌, ◌⊎◌, ℕ, ◌+◌, ◌<◌, ◌≤◌, max, ℤ, ◌+ℤ◌, ◌≤ℤ◌, List, [], ◌∷◌, map, sum_by}
use Rattle.ss_bounds.specs.declared.fraction.Fraction.{Fraction}
use Rattle.ss_bounds.specs.declared.mean.Mean.{Mean}
use Rattle.ss_bounds.specs.declared.mean.Mean.TheVariants.{Nothing, Sure, Maybe}
use Rattle.ss_bounds.specs.Fractions.{IsAtMost, IsSame}
use Rattle.ss_bounds.specs.Means.{AddsUpTo, so_many, with_values}
use Rattle.ss_bounds.specs.Split.{SplitFigures, least_count, greatest_count, low_sum, high_sum, sum_interval}
use Rattle.ss_bounds.specs.Truth.{total}

-- so many values with this sum may be those of a split window in the range
pub record MayHave (s : SplitFigures) (values : Fraction) : Type 0 where
  pub fewest : least_count s ≤ values.under
  pub most : values.under ≤ greatest_count s
  pub low : low_sum s values.under ≤ℤ values.over
  pub high : values.over ≤ℤ high_sum s values.under

-- each split window comes with such values
abbrev pub EachMayHave : List (SplitFigures × Fraction) → Type 0
EachMayHave [] = Unit {0}
EachMayHave (w ∷ ws) = MayHave w.0 w.1 × EachMayHave ws

-- the windows, and their values together with those that are known
abbrev pub figures_alone : List (SplitFigures × Fraction) → List SplitFigures
figures_alone windows = map (λ w. w.0) windows

abbrev pub all_together : Fraction → List (SplitFigures × Fraction) → Fraction
all_together known [] = known
all_together known (w ∷ ws) = all_together (with_values known w.1) ws

-- what is known of a mean is true of that of some values, or of there being none
abbrev pub HoldsMean : Mean → Fraction → Type 0
HoldsMean Nothing values = values.under ≡ 0
HoldsMean (Sure lo hi) values = (0 < values.under) × IsAtMost lo values × IsAtMost values hi
HoldsMean (Maybe lo hi) values = 0 < values.under → IsAtMost lo values × IsAtMost values hi

-- an end is the mean of what is known with a number of values of each split window, with the sum that `sum` gives so many
abbrev pub AttainsMean : (SplitFigures → ℕ → ℤ) → Fraction → List SplitFigures → Fraction → Type 0
AttainsMean sum known splits end = (values : Fraction) × AddsUpTo sum known splits values × (0 < values.under) × IsSame values end

-- the ends are attained, with the least sums and with the greatest
abbrev pub AreAttained : Fraction → List SplitFigures → Mean → Type 0
AreAttained known splits Nothing = (values : Fraction) → AddsUpTo low_sum known splits values → values.under ≡ 0
AreAttained known splits (Sure lo hi) = AttainsMean low_sum known splits lo × AttainsMean high_sum known splits hi
AreAttained known splits (Maybe lo hi) = AttainsMean low_sum known splits lo × AttainsMean high_sum known splits hi

-- from which to which sum the values in the range have, and how many they are
abbrev pub sums_between : Fraction → List SplitFigures → ℤ × ℤ
sums_between known splits =
    (known.over +ℤ total (map (λ (i : ℤ × ℤ). i.0) (map sum_interval splits)), known.over +ℤ total (map (λ (i : ℤ × ℤ). i.1) (map sum_interval splits)))

abbrev pub counts_between : Fraction → List SplitFigures → ℕ × ℕ
counts_between known splits = (known.under + sum_by least_count splits, known.under + sum_by greatest_count splits)

-- two ends lie within the sums over the counts, where no count is 0
pub record AreWithin (sums : ℤ × ℤ) (counts : ℕ × ℕ) (lo hi : Fraction) : Type 0 where
  pub low : IsAtMost (so_many (λ n. sums.0) (max 1 counts.0)) lo ⊎ IsAtMost (so_many (λ n. sums.0) counts.1) lo
  pub high : IsAtMost hi (so_many (λ n. sums.1) (max 1 counts.0)) ⊎ IsAtMost hi (so_many (λ n. sums.1) counts.1)

-- an interval is no wider
abbrev pub IsNoWider : ℤ × ℤ → ℕ × ℕ → Mean → Type 0
IsNoWider sums counts Nothing = Unit {0}
IsNoWider sums counts (Sure lo hi) = AreWithin sums counts lo hi
IsNoWider sums counts (Maybe lo hi) = AreWithin sums counts lo hi
