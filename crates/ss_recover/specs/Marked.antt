-- The landmarks that records make, which come in order: each landmark's record, and then those of its values. And what they have to
-- meet, one condition after another: numbers are next, counts are as said, and times are in order.
use Rattle.std.specs.Prelude.{ℕ, ◌+◌, Bool, true, false, ◌==◌, ◌&&◌, ◌||◌, nat_le, List, [], ◌∷◌, length, is_none, Option, Some, None}
use Rattle.std.specs.Option.{option_map}
use Rattle.ss_codec.specs.declared.record.Record.{Record}
use Rattle.ss_codec.specs.declared.record.Record.TheVariants as records
use Rattle.ss_landmarks.specs.Free.{is_up_to}
use Rattle.ss_landmarks.specs.Landmark.{Landmark, LandmarkValue}

-- the values whose records come before that of the next landmark
abbrev pub values_first : List Record → List LandmarkValue
values_first [] = []
values_first (records.Landmark id number said start finish ∷ rs) = []
values_first (records.Value id number index t v ∷ rs) = record { t = t; v = v } ∷ values_first rs
values_first (_ ∷ rs) = values_first rs

-- the landmarks that they make, each with the values whose records follow its own
abbrev pub landmarks_made : List Record → List Landmark
landmarks_made [] = []
landmarks_made (records.Landmark id number said start finish ∷ rs) =
    record { start = start; finish = finish; values = values_first rs } ∷ landmarks_made rs
landmarks_made (_ ∷ rs) = landmarks_made rs

-- After so many landmarks, of which the last has so many values so far: each landmark has the next number, and each value the number
-- of the last landmark and the next index.
abbrev pub are_numbered : ℕ → ℕ → List Record → Bool
are_numbered landmarks values [] = true
are_numbered landmarks values (records.Landmark id number said start finish ∷ rs) = number == landmarks + 1 && are_numbered number 0 rs
are_numbered landmarks values (records.Value id number index t v ∷ rs) =
    number == landmarks && index == values + 1 && are_numbered landmarks index rs
are_numbered landmarks values (_ ∷ rs) = are_numbered landmarks values rs

-- a landmark that is closed has as many values as its record says
abbrev pub is_counted : Record → List Record → Bool
is_counted (records.Landmark id number said start finish) rs = is_none finish || length (values_first rs) == said
is_counted _ rs = true

-- each landmark that is closed has
abbrev pub are_counted : List Record → Bool
are_counted [] = true
are_counted (r ∷ rs) = is_counted r rs && are_counted rs

-- values come at rising times, from one on and up to the end, if there is one
abbrev pub rise_within : ℕ → Option ℕ → List LandmarkValue → Bool
rise_within from finish [] = true
rise_within from finish (value ∷ values) = nat_le from value.t && is_up_to value.t finish && rise_within (value.t + 1) finish values

-- a landmark opens where others may, which is from a time on; or none may, since the one before is open
abbrev pub opens_from : Option ℕ → ℕ → Bool
opens_from None start = false
opens_from (Some from) start = nat_le from start

-- from when on others may open after a landmark
abbrev pub free_from : Option ℕ → Option ℕ
free_from finish = option_map (λ t. t + 1) finish

-- a landmark opens after the one before it is closed, and its values come between its opening and its closing
abbrev pub is_in_time : Option ℕ → Record → List Record → Bool
is_in_time from (records.Landmark id number said start finish) rs = opens_from from start && rise_within start finish (values_first rs)
is_in_time from _ rs = true

-- from when on others may open after a record
abbrev pub next_from : Option ℕ → Record → Option ℕ
next_from from (records.Landmark id number said start finish) = free_from finish
next_from from _ = from

-- all of them come in time, where the first may open from this time on
abbrev pub are_in_time : Option ℕ → List Record → Bool
are_in_time from [] = true
are_in_time from (r ∷ rs) = is_in_time from r rs && are_in_time (next_from from r) rs

-- the records are those of landmarks with all their values
abbrev pub are_marks : List Record → Bool
are_marks rs = are_numbered 0 0 rs && are_counted rs && are_in_time (Some 0) rs
