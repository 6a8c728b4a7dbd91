-- The index of a stream: when its windows are joined, and where they stand by their times, over every disk.
use Rattle.std.specs.Prelude.{◌≡◌, ℕ, ◌<◌, ◌≤◌, true, false, List, [], ◌∷◌, ◌++◌, map, Option}
use Rattle.ss_records.specs.Kept.{RecordsState}
use Rattle.ss_line.specs.declared.entry.At.{At}
use Rattle.ss_line.specs.declared.entry.Entry.{Entry}
use Rattle.ss_targets.specs.Rule.{rule_of}
use Rattle.ss_targets.specs.Targets.{params_of}
use Rattle.ss_base.specs.declared.limits.TheConstants.{MOST_VALUES}
use Rattle.ss_schedule.specs.Keyed.{HasPlaces, IsKeyed}
use Rattle.ss_schedule.specs.Pairs.{IsPairIn, pair_may_join}
use Rattle.ss_schedule.specs.declared.index.Index.{Index}
use Rattle.ss_schedule.specs.declared.pair.Pair.{Pair}
use Rattle.ss_model.specs.Marks.{has_open}
use Rattle.ss_model.specs.Refusals.{is_past}
use Rattle.ss_parts.specs.Held.{entries_of}
use Rattle.ss_parts.specs.declared.parts.StreamParts.{StreamParts}
use Rattle.ss_stream.specs.Changing.{HoldsUntil, KeepsWhole, NoneAreDue}
use Rattle.ss_stream.specs.Held.{IsOrdered, values_held}
use Rattle.ss_stream.specs.declared.held.HeldStream.{HeldStream}

-- when the first value of a window came, and where the window stands
abbrev pub begun_at : At × Entry → ℕ × At
begun_at e = (e.1.t_first, e.0)

-- times are those of the windows in a line, in order
abbrev pub IsTimed : List (At × Entry) → List (ℕ × At) → Type 0
IsTimed entries times = times ≡ map begun_at entries

-- an index of the target of a stream says when each two neighbours of its windows first fit, seen after so many values, and
-- where each window stands
pub record IsKeyedAt (n : ℕ) (part : StreamParts) (index : Index) : Type 0 where
  pub target : index.schedule.target ≡ part.target
  pub keyed : IsKeyed n part.line.entries index.schedule
  pub timed : IsTimed part.line.entries index.times

-- the same, seen after the values that the windows hold
abbrev pub IsKeyedFor : HeldStream → Type 0
IsKeyedFor held = IsKeyedAt (values_held (entries_of held.part)) held.part held.index

-- and none of them is due
abbrev pub IsScheduled : HeldStream → Type 0
IsScheduled held = IsKeyedFor held × NoneAreDue held.part

-- What a stream is after a call of it, beside records that are others then: whole, with so many values up to a last time, and its index
-- is that of its windows.
pub record StandsAfter (part : StreamParts) (now : HeldStream) (was is : RecordsState) (used n : ℕ) (last : Option ℕ) : Type 0 where
  pub whole : KeepsWhole part now.part was is used
  pub holds : HoldsUntil now.part n last
  pub keyed : IsKeyedFor now

-- the index of a stream in which no two windows are due is ready for one more that begins at a time: it has room for it, and
-- has noted the time behind those of the windows
pub record IsReservedFor (t : ℕ) (held : HeldStream) : Type 0 where
  pub target : held.index.schedule.target ≡ held.part.target
  pub keyed : IsKeyed (values_held (entries_of held.part)) held.part.line.entries held.index.schedule
  pub none_due : NoneAreDue held.part
  pub places : HasPlaces held.part.line held.index.schedule
  pub noted : held.index.times ≡ map begun_at held.part.line.entries ++ (t, record { 0 = 0 }) ∷ []

-- a stream takes a value outside landmarks at a time: its line has a place for one more window, and its index is ready for it
pub record CanAppend (held : HeldStream) (t : ℕ) : Type 0 where
  pub spare : 1 ≤ held.part.line.spare
  pub reserved : IsReservedFor t held
  pub room : values_held (entries_of held.part) < MOST_VALUES
  pub plain : has_open held.part.landmarks.landmarks ≡ false
  pub later : is_past held.part.last_time t ≡ false
  pub ordered : IsOrdered held.part

-- two neighbours of a stream's windows are due, and its index is that of its windows
pub record IsDuePair (held : HeldStream) (pair : Pair) : Type 0 where
  pub ordered : IsOrdered held.part
  pub keyed : IsKeyedFor held
  pub stands : IsPairIn held.part.line.entries pair
  pub due : pair_may_join (rule_of (params_of held.part.target)) (values_held (entries_of held.part)) pair ≡ true
