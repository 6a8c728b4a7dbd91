-- A stream is dropped: its record says so, and then its records are cleared, its own last.
use Rattle.std.specs.Prelude.{◌≡◌, ◌⊎◌, ℕ, false, List, ◌++◌, map, Option, Result}
use Rattle.std.specs.List.{list_any}
use Rattle.std.specs.List.Sorted.{IsPermutation}
use Rattle.ss_outside.specs.Disk.{Told}
use Rattle.ss_journal.specs.Redo.{SlotMap, StandsFor}
use Rattle.ss_records.specs.Kept.{RecordsState}
use Rattle.ss_codec.specs.declared.record.Record.{Record}
use Rattle.ss_model.specs.ClosedState.{closed_state}
use Rattle.ss_model.specs.State.{Stream}
use Rattle.ss_recover.specs.Doomed.{is_of, records_beside, without_numbered}
use Rattle.ss_parts.specs.Held.{Agrees, occupied, records_held}
use Rattle.ss_recover.specs.Parts.{carried, carries}
use Rattle.ss_parts.specs.declared.parts.StreamParts.{StreamParts}
use Rattle.ss_parts.specs.Slots.{HasRecords}
use Rattle.ss_stream.specs.Calls.{TurnsShown}
use Rattle.ss_store.specs.Recover.{Recovers}

-- An image carries these streams, and has the records of one that is held beside others, of which none has its number.
pub record IsHeldBeside (others : List (ℕ × Option Record)) (part : StreamParts) (s : Stream) (streams : List Stream) (image : List ℕ) : Type 0 where
  pub agrees : Agrees part s
  pub none : list_any (is_of s.number) (records_beside others) ≡ false
  pub found : SlotMap
  pub map : StandsFor image found
  pub occupied : IsPermutation (records_held (part, s) ++ others) (occupied found)
  pub carried : carried found ≡ carries streams

-- an image recovers to these streams, or to them without one
abbrev pub RecoversWithOrWithout : ℕ → List Stream → List ℕ → Type 0
RecoversWithOrWithout number streams image =
    Recovers (closed_state streams) image ⊎ Recovers (closed_state (without_numbered number streams)) image

-- a call stages the drop of a stream, wholly or not at all, and the others' records are left
abbrev pub StagesDrop : {T E : Type 0} → StreamParts → RecordsState → RecordsState → Result T E → Told → Told → Type 0
StagesDrop part was is result old new =
    (others : List (ℕ × Option Record)) (s : Stream) (streams : List Stream) →
    TurnsShown was is (IsHeldBeside others part s streams) (RecoversWithOrWithout s.number streams) (HasRecords others) old new result
