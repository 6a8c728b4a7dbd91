-- The landmark values of a range of time, which values are among them, and what they add up to.
use Rattle.std.specs.Prelude.{ℕ, ℤ, pos, ◌+ℤ◌, Bool, ◌&&◌, nat_le, List, [], ◌∷◌, length, Option, Some, None}
use Rattle.std.specs.List.{filter, list_any}
use Rattle.std.specs.Int.{int_min, int_max}
use Rattle.std.specs.Ordering.{int_eq}
use Rattle.ss_landmarks.specs.Landmark.{Landmark, LandmarkValue, all_values}
use Rattle.ss_landmarks.specs.declared.tally.Tally.{Tally}

-- the value's time is in a..=b
abbrev pub lies_in : ℕ → ℕ → LandmarkValue → Bool
lies_in a b value = nat_le a value.t && nat_le value.t b

-- the landmark values with time in a..=b
abbrev pub values_between : List Landmark → ℕ → ℕ → List LandmarkValue
values_between landmarks a b = filter (lies_in a b) (all_values landmarks)

-- some value of the list is v
abbrev pub is_among : ℤ → List LandmarkValue → Bool
is_among v values = list_any (λ value. int_eq value.v v) values

-- the least of a value and of another, if there is one
abbrev pub least_with : ℤ → Option ℤ → ℤ
least_with v None = v
least_with v (Some other) = int_min v other

-- the greatest of a value and of another, if there is one
abbrev pub greatest_with : ℤ → Option ℤ → ℤ
greatest_with v None = v
greatest_with v (Some other) = int_max v other

-- the sum of the values
abbrev pub total : List LandmarkValue → ℤ
total [] = pos 0
total (value ∷ values) = value.v +ℤ total values

-- the least of the values; none of no values
abbrev pub least : List LandmarkValue → Option ℤ
least [] = None
least (value ∷ values) = Some (least_with value.v (least values))

-- the greatest of the values; none of no values
abbrev pub greatest : List LandmarkValue → Option ℤ
greatest [] = None
greatest (value ∷ values) = Some (greatest_with value.v (greatest values))

-- the tally of some values: their count, sum, least and greatest
abbrev pub tally_of : List LandmarkValue → Tally
tally_of values = record { count = length values; sum = total values; least = least values; greatest = greatest values }
