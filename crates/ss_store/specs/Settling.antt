-- What was rebuilt is settled: records of dropped streams are cleared, and the merges made that are due.
use Rattle.std.specs.Prelude.{ℕ, List, OnOk, Result, Contains, flat_map}
use Rattle.ss_outside.specs.Disk.{Told}
use Rattle.ss_outside.specs.Verdict.{IsFirm, Verdict, IfChanged}
use Rattle.ss_records.specs.Kept.{AreKept, RecordsState}
use Rattle.ss_model.specs.ClosedState.{closed_state}
use Rattle.ss_model.specs.Standing.{IsState}
use Rattle.ss_model.specs.State.{Stream}
use Rattle.ss_parts.specs.Held.{AllAgree, window_slots_of}
use Rattle.ss_parts.specs.declared.parts.StreamParts.{StreamParts}
use Rattle.ss_parts.specs.Reading.{verdict_of_read}
use Rattle.ss_parts.specs.declared.read_error.ReadError.{ReadError}
use Rattle.ss_stream.specs.Calls.{KeepsWithin, Turns}
use Rattle.ss_store.specs.Rebuilt.{HasRebuilt, HasRebuiltBeside}
use Rattle.ss_store.specs.Recover.{Recovers}

-- The records of dropped streams in these slots are cleared and all streams are closed, by records that are these then, and a crash
-- leaves what closes to the same. Where the streams were held, no record has changed. No more slots are used than before.
pub record SettlesAll (slots : List ℕ) (parts now : List StreamParts) (records : RecordsState) (result : Result (Unit {0}) ReadError)
    (old new : Told) : Type 0 where
  pub turns : (all : List Stream) → IsState all → AllAgree parts all →
      Turns (HasRebuiltBeside slots parts all) (Recovers (closed_state all)) (HasRebuilt now (closed_state all)) old new result
  pub agree : (all : List Stream) → IsState all → AllAgree parts all → HasRebuiltBeside slots parts all old.content →
      OnOk result (AllAgree now (closed_state all))
  pub firm : (all : List Stream) → IsState all → AllAgree parts all → HasRebuiltBeside slots parts all old.content → IsFirm (verdict_of_read result)
  pub kept : OnOk result (AreKept records new.content)
  pub within : KeepsWithin 0 result old new

-- where the record of a slot has changed, a window of some of these streams is held there
abbrev pub SomeChangedIsHeld : Verdict → List StreamParts → Type 0
SomeChangedIsHeld v parts = IfChanged v (λ slot. Contains (flat_map window_slots_of parts) slot)

-- All streams are closed, by records that are these then, and a crash leaves what closes to the same. Where they were held, no
-- record has changed. No more slots are used than before.
pub record ClosesAll (parts now : List StreamParts) (records : RecordsState) (result : Result (Unit {0}) ReadError) (old new : Told) : Type 0 where
  pub turns : (all : List Stream) → IsState all → AllAgree parts all →
      Turns (HasRebuilt parts all) (Recovers (closed_state all)) (HasRebuilt now (closed_state all)) old new result
  pub agree : (all : List Stream) → IsState all → AllAgree parts all → HasRebuilt parts all old.content → OnOk result (AllAgree now (closed_state all))
  pub firm : (all : List Stream) → IsState all → AllAgree parts all → HasRebuilt parts all old.content → IsFirm (verdict_of_read result)
  pub kept : OnOk result (AreKept records new.content)
  pub within : KeepsWithin 0 result old new
