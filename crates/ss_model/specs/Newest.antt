-- How far a stream has come, and its newest value: when it came, and from which to which it lies.
use Rattle.std.specs.Prelude.{ℕ, nat_lt, if◌then◌else◌, List, Option, Some, None, option_map}
use Rattle.std.specs.List.{last_or}
use Rattle.ss_catalog.specs.declared.refusal.Refusal.{Refusal}
use Rattle.ss_landmarks.specs.Landmark.{Landmark, LandmarkValue}
use Rattle.ss_landmarks.specs.Newest.{newest_value}
use Rattle.ss_model.specs.Refusals.{first_that_applies, range_refusals, stands}
use Rattle.ss_model.specs.State.{Stream, last_time, stream_named}
use Rattle.ss_model.specs.declared.newest.Known.{Known}
use Rattle.ss_model.specs.declared.newest.Newest.{Newest}
use Rattle.ss_model.specs.declared.newest.Newest.TheVariants.{Nothing, Time, Value}
use Rattle.ss_model.specs.declared.types.Window.{Window}

-- what a window tells of its newest value, which lies between its least and its greatest
abbrev pub known_in : Window → Known
known_in w = record { at = w.summary.t_last; lo = w.summary.min; hi = w.summary.max }

-- what is known of a value that is kept
abbrev pub known_exactly : LandmarkValue → Known
known_exactly value = record { at = value.t; lo = value.v; hi = value.v }

-- the newest window, where there is one
abbrev pub newest_window : List Window → Option Window
newest_window windows = last_or None windows

-- what is known of the newer of two values, where there are any
abbrev pub newer : Option Known → Option Known → Option Known
newer None other = other
newer (Some known) None = Some known
newer (Some known) (Some other) = Some (if nat_lt other.at known.at then known else other)

-- what is known of the newest value of a stream, where it has one: it stands in the newest window or in a landmark
abbrev pub newest_known : List Window → List Landmark → Option Known
newest_known windows landmarks = newer (option_map known_in (newest_window windows)) (option_map known_exactly (newest_value landmarks))

-- what is told of a last time and of the newest value
abbrev pub newest_told : Option ℕ → Option Known → Newest
newest_told None known = Nothing
newest_told (Some last) None = Time last
newest_told (Some last) (Some known) = Value last known.at known.lo known.hi

-- what is told of a stream
abbrev pub newest_of : Stream → Newest
newest_of s = newest_told (last_time s) (newest_known s.windows s.landmarks)

-- what is told of the stream of a name, where it stands
abbrev pub newest_in : List Stream → List ℕ → Option Newest
newest_in streams name = option_map newest_of (stream_named name streams)

-- why a command that reads the values of landmarks in a range is refused in a state, where it is
unfoldable pub refuses_values : List Stream → List ℕ → ℕ → ℕ → Option Refusal
refuses_values streams name from to = first_that_applies (range_refusals (stands name streams) from to)
