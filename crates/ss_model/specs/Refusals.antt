-- Which refusal an event or a command gets in a state.
use Rattle.std.specs.Prelude.{◌≡◌, ℕ, Bool, false, not, nat_le, nat_lt, ◌==◌, ◌&&◌, ◌||◌, if◌then◌else◌, List, [], ◌∷◌, ◌++◌, length, Option, Some}
use Rattle.std.specs.Prelude.{None, is_some}
use Rattle.std.specs.List.{list_any}
use Rattle.std.specs.Option.{option_map_or}
use Rattle.ss_catalog.specs.declared.TheConstants.{MOST_STREAMS, LAST_STREAM}
use Rattle.ss_catalog.specs.Events.{event_name}
use Rattle.ss_catalog.specs.declared.event.Event.{Event}
use Rattle.ss_catalog.specs.declared.event.Event.TheVariants.{Create, Value, Open, Close, Drop}
use Rattle.ss_catalog.specs.declared.refusal.Refusal.TheVariants as refusal
use Rattle.ss_catalog.specs.declared.refusal.Refusal.{Refusal}
use Rattle.ss_landmarks.specs.Landmark.{Landmark, open_landmark}
use Rattle.ss_targets.specs.Lengths.{has_target}
use Rattle.ss_base.specs.declared.limits.TheConstants.{MOST_VALUES}
use Rattle.ss_model.specs.History.{CanBeSaid, Happened}
use Rattle.ss_model.specs.Marks.{has_open}
use Rattle.ss_model.specs.Outline.{Outline, outline_named}
use Rattle.ss_model.specs.State.{Stream, state, stream_named, numbers_of, live}
use Rattle.ss_model.specs.declared.types.TheConstants.{MOST_RECORDS}

-- whether a stream of a name stands
abbrev pub stands : List ℕ → List Stream → Bool
stands name streams = is_some (stream_named name streams)

-- whether no further stream has a place or a number, by the numbers of those that stand
abbrev pub has_all_streams : List ℕ → Bool
has_all_streams numbers = nat_le MOST_STREAMS (length numbers) || list_any (λ number. number == LAST_STREAM) numbers

-- whether no further record has a place, where so many stand
abbrev pub has_all_records : ℕ → Bool
has_all_records records = nat_le MOST_RECORDS records

-- whether a time isn't later than the last one, where there is one, and whether it is earlier
abbrev pub is_past : Option ℕ → ℕ → Bool
is_past None t = false
is_past (Some last) t = nat_le t last

abbrev pub is_before : Option ℕ → ℕ → Bool
is_before None t = false
is_before (Some last) t = nat_lt t last

-- whether a landmark is open that has no value yet and opened at this time: its first value may carry it
abbrev pub is_opening : List Landmark → ℕ → Bool
is_opening landmarks t = option_map_or (λ (l : Landmark). l.start == t && length l.values == 0) (open_landmark landmarks) false

-- whether a value comes too early for a stream
abbrev pub is_early : Outline → ℕ → Bool
is_early s t = is_past s.last_time t && not (is_opening s.landmarks t)

-- whether a value would be one more outside landmarks than a stream can take
abbrev pub has_most_values : Outline → Bool
has_most_values s = not (has_open s.landmarks) && nat_le MOST_VALUES s.values

-- whether there is a stream and its outline has this
abbrev pub of_outline : Option Outline → (Outline → Bool) → Bool
of_outline outline test = option_map_or test outline false

-- The refusals of an event in the order of their numbers, each with whether it applies: by the outline of the stream of its name, where that
-- stands, the numbers of all streams, and how many records these need.
abbrev pub refusals : Option Outline → List ℕ → ℕ → Event → List (Bool × Refusal)
refusals stream numbers records (Create name params) =
    (not (has_target params), refusal.Param)
    ∷ (is_some stream, refusal.Exists)
    ∷ (has_all_streams numbers, refusal.Streams)
    ∷ (has_all_records records, refusal.StoreFull) ∷ []
refusals stream numbers records (Value name t v) =
    (not (is_some stream), refusal.Unknown)
    ∷ (of_outline stream (λ s. is_early s t), refusal.Time)
    ∷ (of_outline stream has_most_values, refusal.StreamFull)
    ∷ (has_all_records records, refusal.StoreFull) ∷ []
refusals stream numbers records (Open name t) =
    (not (is_some stream), refusal.Unknown)
    ∷ (of_outline stream (λ s. has_open s.landmarks), refusal.Open)
    ∷ (of_outline stream (λ s. is_past s.last_time t), refusal.Time)
    ∷ (has_all_records records, refusal.StoreFull) ∷ []
refusals stream numbers records (Close name t) =
    (not (is_some stream), refusal.Unknown)
    ∷ (of_outline stream (λ s. not (has_open s.landmarks)), refusal.NotOpen)
    ∷ (of_outline stream (λ s. is_before s.last_time t), refusal.Time) ∷ []
refusals stream numbers records (Drop name) = (not (is_some stream), refusal.Unknown) ∷ []

-- the refusal of a command that reads a stream, by whether that stands, and those of one that reads a range of its times
abbrev pub reading_refusals : Bool → List (Bool × Refusal)
reading_refusals known = (not known, refusal.Unknown) ∷ []

abbrev pub range_refusals : Bool → ℕ → ℕ → List (Bool × Refusal)
range_refusals known from to = (not known, refusal.Unknown) ∷ (nat_lt to from, refusal.Range) ∷ []

-- the first refusal that applies
abbrev pub first_that_applies : List (Bool × Refusal) → Option Refusal
first_that_applies [] = None
first_that_applies (r ∷ rs) = if r.0 then Some r.1 else first_that_applies rs

-- why an event is refused in a state, where it is
unfoldable pub refuses : List Stream → Event → Option Refusal
refuses streams event = first_that_applies (refusals (outline_named (event_name event) streams) (numbers_of streams) (live streams) event)

-- why a command that reads the stream of a name is refused in a state, where it is
unfoldable pub refuses_reading : List Stream → List ℕ → Option Refusal
refuses_reading streams name = first_that_applies (reading_refusals (stands name streams))

-- a history: events that can be said, none of them refused in the state of the events before it
pub record IsHistory (history : List Happened) : Type 0 where
  pub said : (before after : List Happened) (e : Happened) → history ≡ before ++ e ∷ after → CanBeSaid e.0
  pub accepted : (before after : List Happened) (e : Happened) → history ≡ before ++ e ∷ after → refuses (state before) e.0 ≡ None
