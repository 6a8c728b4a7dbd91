-- How landmarks are held: those that are closed, the one that is open, and the values of all of them in one list.
use Rattle.std.specs.Prelude.{◌≡◌, ℕ, ◌+◌, ◌<◌, ◌≤◌, slice_index_or, List, [], ◌∷◌, ◌++◌, length, map, take, drop, Option, Some, None, is_some, cond}
use Rattle.std.specs.Prelude.{IfSome, MatchOption}
use Rattle.std.specs.List.{sum_by, count_by, range_with_len, All}
use Rattle.std.specs.Option.{option_map, option_to_list}
use Rattle.ss_landmarks.specs.declared.stored.Closed.{Closed}
use Rattle.ss_landmarks.specs.declared.stored.Opened.{Opened}
use Rattle.ss_landmarks.specs.declared.stored.StoredValue.{StoredValue}
use Rattle.ss_landmarks.specs.Landmark.{Landmark, LandmarkValue}
use Rattle.ss_landmarks.specs.Free.{is_free}
use Rattle.ss_landmarks.specs.Order.{AreLandmarks}
use Rattle.ss_landmarks.specs.declared.landmarks.TheConstants.{MOST_LANDMARK_SLOTS}
use Rattle.ss_base.specs.declared.limits.TheConstants.{LAST_TIME}

-- the value, without its slot
abbrev pub bare_value : StoredValue → LandmarkValue
bare_value value = record { t = value.t; v = value.v }

-- the open landmark, with these values
abbrev pub open_with : List LandmarkValue → Opened → Landmark
open_with values o = record { start = o.start; finish = None; values = values }

-- the landmarks that these are: each closed one takes its values from the front, and what is left is the open one's
abbrev pub landmarks_from : List Closed → Option Opened → List LandmarkValue → List Landmark
landmarks_from [] current values = option_to_list (option_map (open_with values) current)
landmarks_from (c ∷ closed) current values =
    record { start = c.start; finish = Some c.finish; values = take c.values values }
    ∷ landmarks_from closed current (drop c.values values)

-- how many values the closed landmarks have
abbrev pub closed_values : List Closed → ℕ
closed_values closed = sum_by (λ c. c.values) closed

-- how many times before this one are free
abbrev pub free_before : List Landmark → ℕ → ℕ
free_before landmarks t = count_by (is_free landmarks) (range_with_len 0 t)

-- the slots of the landmarks
abbrev pub slots_of : List Closed → Option Opened → List ℕ
slots_of closed current = map (λ c. c.slot) closed ++ option_to_list (option_map (λ o. o.slot) current)

-- 1 where a landmark is open
abbrev pub one_open : Option Opened → ℕ
one_open current = cond (is_some current) 1 0

-- closed landmarks, the first from `from` on, each closed before those after it begin, and all before the open one
pub record Apart (from : ℕ) (cs : List Closed) (current : Option Opened) : Type 0 where
  pub starts : All (λ c. from ≤ c.start) cs
  pub ends : All (λ c. (c.start ≤ c.finish) × (c.finish ≤ LAST_TIME)) cs
  pub order : (j k : ℕ) (d : Closed) → j < k → k < length cs → (slice_index_or cs j d).finish < (slice_index_or cs k d).start
  pub open_start : IfSome current (λ o. (from ≤ o.start) × (o.start ≤ LAST_TIME))
  pub open_last : IfSome current (λ o. All (λ c. c.finish < o.start) cs)

-- landmarks that are apart, each with the number of times before it that are free
pub record KnowFree (cs : List Closed) (current : Option Opened) : Type 0 where
  pub apart : Apart 0 cs current
  pub closed : All (λ c. c.free_before ≡ free_before (landmarks_from cs current []) c.start) cs
  pub opened : IfSome current (λ o. o.free_before ≡ free_before (landmarks_from cs current []) o.start)

-- the values are shared out among the landmarks: without an open one the closed ones have them all
abbrev pub AreShared : List Closed → Option Opened → List LandmarkValue → Type 0
AreShared cs current values = MatchOption current (closed_values cs ≡ length values)
    (λ o. (o.values_before ≡ closed_values cs) × (closed_values cs ≤ length values))

-- Landmarks as they are held: what they are seen as is in order of time.
pub record AreStored (cs : List Closed) (current : Option Opened) (values : List LandmarkValue) : Type 0 where
  pub order : AreLandmarks (landmarks_from cs current values)
  pub shared : AreShared cs current values
  pub know : KnowFree cs current

-- so many, and room for so many more, fit in this memory, and are no more than are kept
pub record FitsMemory (count room capacity : ℕ) : Type 0 where
  pub fits : count + room ≤ capacity
  pub most : count + room ≤ MOST_LANDMARK_SLOTS
