-- Where values of landmarks of a stream stand.
use Rattle.std.specs.Prelude.{◌≡◌, ℕ, ◌+◌, ◌≤◌, List, length, take, drop}
use Rattle.ss_landmarks.specs.Landmark.{Landmark, all_values}
use Rattle.ss_landmarks.specs.ValuesIn.{values_between}
use Rattle.ss_store.specs.declared.store.values.ValueRange.{ValueRange}

-- a range is where those with times in from..=to stand among all values of landmarks
pub record AreValuesIn (landmarks : List Landmark) (from to : ℕ) (range : ValueRange) : Type 0 where
  pub values : values_between landmarks from to ≡ take range.count (drop range.first (all_values landmarks))
  pub count : range.count ≡ length (values_between landmarks from to)
  pub within : range.first + range.count ≤ length (all_values landmarks)
