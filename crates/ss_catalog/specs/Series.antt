-- What series say: the rows of a range that is cut into steps.
use Rattle.std.specs.Prelude.{ℕ, zero, suc, List, [], ◌∷◌, ◌+◌, ◌-◌, ◌*◌, ◌/◌, ◌<◌, ◌≤◌, min, nat_lt, if◌then◌else◌}
use Rattle.ss_catalog.specs.declared.TheConstants.{MOST_ROWS}
use Rattle.ss_base.specs.declared.limits.TheConstants.{LAST_TIME}
use Rattle.ss_catalog.specs.declared.query.Query.{Query}
use Rattle.ss_catalog.specs.declared.series.Series.{Series}

-- how many rows the range from..=to has, with so many times in each but the last: none where it ends before it begins
abbrev pub rows_in : ℕ → ℕ → ℕ → ℕ
rows_in from to step = if nat_lt to from then 0 else (to - from) / step + 1

-- how many rows a series has
abbrev pub row_count : Series → ℕ
row_count series = rows_in series.from series.to series.step

-- so many numbers, one after the other from this one on
unfoldable pub numbers_from : ℕ → ℕ → List ℕ
numbers_from first zero = []
numbers_from first (suc n) = first ∷ numbers_from (first + 1) n

-- the rows of a series, as numbers from 0 on
abbrev pub rows_of : Series → List ℕ
rows_of series = numbers_from 0 (row_count series)

-- the time at which a row begins
abbrev pub row_start : Series → ℕ → ℕ
row_start series row = series.from + row * series.step

-- the query of a row: from its start up to the last time before the next row, and at most to the end of the range
abbrev pub row_query : Series → ℕ → Query
row_query series row = record {
  name = series.name;
  kind = series.kind;
  from = row_start series row;
  to = min (row_start series (row + 1) - 1) series.to;
}

-- the query of the whole range
abbrev pub whole_query : Series → Query
whole_query series = record { name = series.name; kind = series.kind; from = series.from; to = series.to }

-- a series has no time and no step above the last time, a step that isn't 0, and no more rows than one may have
pub record IsSeriesInRange (series : Series) : Type 0 where
  pub from : series.from ≤ LAST_TIME
  pub to : series.to ≤ LAST_TIME
  pub some : 0 < series.step
  pub step : series.step ≤ LAST_TIME
  pub few : row_count series ≤ MOST_ROWS
