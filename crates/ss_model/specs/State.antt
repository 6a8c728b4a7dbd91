-- The state after a history: the streams that stand, each with its windows and its landmarks.
use Rattle.std.specs.Prelude.{ℕ, ◌+◌, max, ◌==◌, not, List, [], ◌∷◌, ◌++◌, map, filter, find, fold, length, sum_by, Option}
use Rattle.ss_catalog.specs.Names.{same_name}
use Rattle.ss_catalog.specs.declared.event.Event.{Event}
use Rattle.ss_catalog.specs.declared.event.Event.TheVariants.{Create, Value, Open, Close, Drop}
use Rattle.ss_catalog.specs.declared.params.Params.{Params}
use Rattle.ss_landmarks.specs.Landmark.{Landmark, all_values}
use Rattle.ss_model.specs.History.{landmarks_of, values_of, Happened}
use Rattle.ss_model.specs.Marks.{later, latest_of}
use Rattle.ss_targets.specs.Rule.{rule_of}
use Rattle.ss_model.specs.Windows.{windows, taken, newest_time}
use Rattle.ss_model.specs.declared.types.Window.{Window}

-- a stream as it was created: its number, name and parameters
pub record Created : Type 0 where
  pub number : ℕ
  pub name : List ℕ
  pub params : Params

-- a stream that stands: as it was created, the windows of its values outside landmarks, and its landmarks, oldest first
pub record Stream : Type 0 where
  pub number : ℕ
  pub name : List ℕ
  pub params : Params
  pub windows : List Window
  pub landmarks : List Landmark

-- the number of a new stream: one more than the greatest of those that stand, or 0 where none stands
abbrev pub next_number : List ℕ → ℕ
next_number [] = 0
next_number (number ∷ numbers) = max (number + 1) (next_number numbers)

-- the streams that stand after one more event
abbrev pub standing_after : List Created → Event → List Created
standing_after standing (Create name params) =
    standing ++ record { number = next_number (map (λ s. s.number) standing); name = name; params = params } ∷ []
standing_after standing (Value name t v) = standing
standing_after standing (Open name t) = standing
standing_after standing (Close name t) = standing
standing_after standing (Drop name) = filter (λ s. not (same_name name s.name)) standing

-- the streams that stand after a history, in order of creation: those that weren't dropped after their last create
abbrev pub standing : List Happened → List Created
standing history = fold (λ stand (e : Happened). standing_after stand e.0) [] history

-- a stream after a history, with the windows of the whole list of its values outside landmarks
abbrev pub stream_after : List Happened → Created → Stream
stream_after history s = record {
  number = s.number;
  name = s.name;
  params = s.params;
  windows = windows (rule_of s.params) (values_of history s.name);
  landmarks = landmarks_of history s.name;
}

-- the state after a history: the streams that stand, in order of creation
unfoldable pub state : List Happened → List Stream
state history = map (stream_after history) (standing history)

-- how many values a stream has taken outside landmarks
abbrev pub values_in : Stream → ℕ
values_in s = taken s.windows

-- the last time of a stream, where it has one: of its values, and of its landmarks
abbrev pub last_time : Stream → Option ℕ
last_time s = later (newest_time s.windows) (latest_of s.landmarks)

-- how many records a stream needs: one for itself, and one for each window, each landmark and each value of a landmark
abbrev pub records_of : Stream → ℕ
records_of s = 1 + length s.windows + length s.landmarks + length (all_values s.landmarks)

-- how many records a state needs
abbrev pub live : List Stream → ℕ
live streams = sum_by records_of streams

-- the numbers of streams, and their names
abbrev pub numbers_of : List Stream → List ℕ
numbers_of streams = map (λ s. s.number) streams

abbrev pub names_of : List Stream → List (List ℕ)
names_of streams = map (λ s. s.name) streams

-- the stream of a name, where it stands
abbrev pub stream_named : List ℕ → List Stream → Option Stream
stream_named name streams = find (λ s. same_name name s.name) streams

-- the stream of a number, where it stands
abbrev pub stream_numbered : ℕ → List Stream → Option Stream
stream_numbered number streams = find (λ s. number == s.number) streams
