-- Records of dropped streams are cleared, one after another.
use Rattle.std.specs.Prelude.{◌≡◌, ℕ, List, [], ◌++◌, map, Option, Result, OnOk}
use Rattle.std.specs.List.Sorted.{IsPermutation}
use Rattle.ss_outside.specs.Disk.{Told}
use Rattle.ss_journal.specs.Redo.{SlotMap, StandsFor}
use Rattle.ss_records.specs.Kept.{RecordsState, AreKept}
use Rattle.ss_codec.specs.declared.record.Record.{Record}
use Rattle.ss_model.specs.ClosedState.{closed_state}
use Rattle.ss_model.specs.State.{Stream}
use Rattle.ss_recover.specs.Doomed.{GoInTurn}
use Rattle.ss_parts.specs.Held.{occupied}
use Rattle.ss_recover.specs.Parts.{carried, carries}
use Rattle.ss_stream.specs.Calls.{Turns, TurnsShown, KeepsWithin}
use Rattle.ss_store.specs.Recover.{Recovers}

-- An image has records of dropped streams, which may go in turn, beside others, and carries these streams.
pub record HasDoomed (doomed held : List (ℕ × Option Record)) (streams : List Stream) (image : List ℕ) : Type 0 where
  pub found : SlotMap
  pub map : StandsFor image found
  pub occupied : IsPermutation (doomed ++ held) (occupied found)
  pub carried : carried found ≡ carries streams
  pub in_turn : GoInTurn doomed held

-- a call stages the clearing of these slots, which are those of records of dropped streams
abbrev pub StagesClearing : {T E : Type 0} → List ℕ → RecordsState → RecordsState → Result T E → Told → Told → Type 0
StagesClearing slots was is result old new =
    (doomed held : List (ℕ × Option Record)) (streams : List Stream) → map (λ (e : ℕ × Option Record). e.0) doomed ≡ slots →
    TurnsShown was is (HasDoomed doomed held streams) (Recovers (closed_state streams)) (HasDoomed [] held streams) old new result

-- the same, and it comes to the disk
abbrev pub ClearsSlots : {T E : Type 0} → List ℕ → Result T E → Told → Told → Type 0
ClearsSlots slots result old new =
    (doomed held : List (ℕ × Option Record)) (streams : List Stream) → map (λ (e : ℕ × Option Record). e.0) doomed ≡ slots →
    Turns (HasDoomed doomed held streams) (Recovers (closed_state streams)) (HasDoomed [] held streams) old new result

-- A change is made of what a disk holds, by records that are these then, and no more slots are used than before, also in a crash.
pub record Makes {T E : Type 0} (change : Told → Told → Type 0) (records : RecordsState) (result : Result T E) (old new : Told) : Type 0 where
  pub changes : change old new
  pub kept : OnOk result (AreKept records new.content)
  pub within : KeepsWithin 0 result old new
