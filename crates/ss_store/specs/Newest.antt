-- The newest value of a stream: where it is held, and what a look for it tells. Why a look is refused that asks for values of a stream.
use Rattle.std.specs.Prelude.{◌≡◌, ℕ, Bool, true, nat_lt, if◌then◌else◌, List, ◌++◌, is_some, Option, Some, None, Result, IfOk}
use Rattle.std.specs.List.{last_or}
use Rattle.ss_outside.specs.Crash.{OnlyReads}
use Rattle.ss_outside.specs.Disk.{Told}
use Rattle.ss_catalog.specs.declared.refusal.Refusal.{Refusal}
use Rattle.ss_landmarks.specs.Landmark.{LandmarkValue}
use Rattle.ss_landmarks.specs.Newest.{newest_value}
use Rattle.ss_line.specs.declared.entry.At.{At}
use Rattle.ss_line.specs.declared.entry.Entry.{Entry}
use Rattle.ss_model.specs.History.{Happened, landmarks_of, marked_of, values_of}
use Rattle.ss_model.specs.Marks.{later, latest_of}
use Rattle.ss_model.specs.Newest.{newest_in}
use Rattle.ss_model.specs.NewestTruth.{HoldsNewest}
use Rattle.ss_model.specs.Refusals.{first_that_applies, range_refusals, reading_refusals}
use Rattle.ss_model.specs.State.{Stream}
use Rattle.ss_model.specs.Windows.{time_of_last}
use Rattle.ss_model.specs.declared.newest.Newest.{Newest}
use Rattle.ss_records.specs.Kept.{RecordsState, shown_by}
use Rattle.ss_parts.specs.declared.parts.StreamParts.{StreamParts}
use Rattle.ss_store.specs.Kept.{part_named}
use Rattle.ss_store.specs.Recover.{Recovers, Stands}
use Rattle.ss_store.specs.declared.error.AskError.{AskError}

-- whether a time is later than that of the newest value of landmarks, where they have one
abbrev pub is_newer : Option LandmarkValue → ℕ → Bool
is_newer None t = true
is_newer (Some value) t = nat_lt value.t t

-- the place of the newest window, if its newest value is newer than that of landmarks
abbrev pub place_if_newer : Option LandmarkValue → Option (At × Entry) → Option At
place_if_newer value None = None
place_if_newer value (Some e) = if is_newer value e.1.t_last then Some e.0 else None

abbrev pub newest_place : StreamParts → Option At
newest_place part = place_if_newer (newest_value part.landmarks.landmarks) (last_or None part.line.entries)

-- why a look at the stream of a name is refused, by what is held of the streams, where it is
unfoldable pub refuses_reading_held : List StreamParts → List ℕ → Option Refusal
refuses_reading_held parts name = first_that_applies (reading_refusals (is_some (part_named name parts)))

-- the same of a look at the values of its landmarks in a range
unfoldable pub refuses_values_held : List StreamParts → List ℕ → ℕ → ℕ → Option Refusal
refuses_values_held parts name from to = first_that_applies (range_refusals (is_some (part_named name parts)) from to)

-- It is told how far a stream has come, and what is known of its newest value, of what records show. Content and images stay.
pub record TellsNewest (was : RecordsState) (name : List ℕ) (result : Result Newest AskError) (old new : Told) : Type 0 where
  -- that of the state that they show
  pub newest : (streams : List Stream) → Recovers streams (shown_by was old.content) → IfOk result (λ told. newest_in streams name ≡ Some told)
  -- it is true of all values of the stream, those of its landmarks among them, for every history that is shown
  pub truth : (history : List Happened) → Stands history (shown_by was old.content) →
      IfOk result (λ told. HoldsNewest told (later (time_of_last (values_of history name)) (latest_of (landmarks_of history name)))
      (values_of history name ++ marked_of history name))
  pub reads : OnlyReads old new
