-- What a `Landmarks` is seen as.
use Rattle.std.specs.Prelude.{◌≡◌, ℕ, ◌+◌, ◌-◌, ◌≤◌, List, length, slice_index, Option}
use Rattle.std.specs.Option.{option_map}
use Rattle.ss_landmarks.specs.Landmark.{Landmark, all_values, open_landmark}
use Rattle.ss_landmarks.specs.Order.{AreLandmarks}
use Rattle.ss_landmarks.specs.declared.landmarks.TheConstants.{MOST_LANDMARK_SLOTS}

-- landmarks in order, the slots of their records, the slots of the records of all their values, and how many more
-- landmarks and values there is room for
pub record LandmarksState : Type 0 where
  pub landmarks : List Landmark
  pub slots : List ℕ
  pub value_slots : List ℕ
  pub room : ℕ
  pub value_room : ℕ

-- the opening time of the open landmark, the slot of its record, and the number of its values
abbrev pub opened : LandmarksState → Option (ℕ × ℕ × ℕ)
opened state =
    option_map (λ l. (l.start, slice_index state.slots (length state.slots - 1), length l.values))
    (open_landmark state.landmarks)

-- What is true of each `Landmarks`.
pub record AreKnown (state : LandmarksState) : Type 0 where
  -- the landmarks are in order of time
  pub order : AreLandmarks state.landmarks
  -- each landmark has a slot, and each value
  pub slots : length state.slots ≡ length state.landmarks
  pub value_slots : length state.value_slots ≡ length (all_values state.landmarks)
  -- there are at most 2^24 of each, with those that there is room for
  pub most : length state.landmarks + state.room ≤ MOST_LANDMARK_SLOTS
  pub most_values : length state.value_slots + state.value_room ≤ MOST_LANDMARK_SLOTS
