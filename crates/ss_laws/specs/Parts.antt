-- What a stream answers of a range, and of the parts of one.
use Rattle.std.specs.Prelude.{ℕ, ◌≤◌, ℤ, ◌≤ℤ◌, List, map}
use Rattle.ss_bounds.specs.declared.extreme.Extreme.{Extreme}
use Rattle.ss_bounds.specs.declared.extreme.Extreme.TheVariants.{Nothing, Sure, Maybe}
use Rattle.ss_catalog.specs.Series.{row_query, rows_of}
use Rattle.ss_catalog.specs.declared.series.Series.{Series}
use Rattle.ss_landmarks.specs.Free.{is_free}
use Rattle.ss_model.specs.Interval.{interval_of_count, interval_of_greatest, interval_of_least, interval_of_sum}
use Rattle.ss_model.specs.Marks.{marked_values}
use Rattle.ss_model.specs.State.{Stream}

-- what a stream answers of the times from..=to: the interval of their count, of their sum, of the least and of the greatest
abbrev pub answered_count : Stream → ℕ → ℕ → ℕ × ℕ
answered_count s from to = interval_of_count (is_free s.landmarks) from to s.windows (marked_values s.landmarks)

abbrev pub answered_sum : Stream → ℕ → ℕ → ℤ × ℤ
answered_sum s from to = interval_of_sum (is_free s.landmarks) from to s.windows (marked_values s.landmarks)

abbrev pub answered_least : Stream → ℕ → ℕ → Extreme
answered_least s from to = interval_of_least (is_free s.landmarks) from to s.windows (marked_values s.landmarks)

abbrev pub answered_greatest : Stream → ℕ → ℕ → Extreme
answered_greatest s from to = interval_of_greatest (is_free s.landmarks) from to s.windows (marked_values s.landmarks)

-- an answer of each row of a series
abbrev pub of_rows : {X : Type 0} → (ℕ → ℕ → X) → Series → List X
of_rows answer series = map (λ row. answer (row_query series row).from (row_query series row).to) (rows_of series)

-- an interval lies within another: of counts, and of sums
abbrev pub IsCountWithin : ℕ × ℕ → ℕ × ℕ → Type 0
IsCountWithin inner outer = (outer.0 ≤ inner.0) × (inner.1 ≤ outer.1)

abbrev pub IsSumWithin : ℤ × ℤ → ℤ × ℤ → Type 0
IsSumWithin inner outer = (outer.0 ≤ℤ inner.0) × (inner.1 ≤ℤ outer.1)

-- and of least or greatest values: what is surely there is within what may be there, and nothing within nothing alone
abbrev pub IsExtremeWithin : Extreme → Extreme → Type 0
IsExtremeWithin Nothing Nothing = Unit {0}
IsExtremeWithin Nothing (Sure l h) = ⊥
IsExtremeWithin Nothing (Maybe l h) = ⊥
IsExtremeWithin (Sure l h) Nothing = ⊥
IsExtremeWithin (Sure l h) (Sure m i) = (m ≤ℤ l) × (h ≤ℤ i)
IsExtremeWithin (Sure l h) (Maybe m i) = (m ≤ℤ l) × (h ≤ℤ i)
IsExtremeWithin (Maybe l h) Nothing = ⊥
IsExtremeWithin (Maybe l h) (Sure m i) = ⊥
IsExtremeWithin (Maybe l h) (Maybe m i) = (m ≤ℤ l) × (h ≤ℤ i)
