-- What the calls of records leave of their disk.
use Rattle.std.specs.Prelude.{◌≡◌, ℕ, List, Result, IfOk, OnOk}
use Rattle.ss_outside.specs.Crash.{OnlyReads}
use Rattle.ss_outside.specs.Disk.{NothingPending, Told}
use Rattle.ss_outside.specs.declared.source.Failed.{Failed}
use Rattle.ss_journal.specs.Calls.{KeepsMap, KeepsShown, MakesDurable}
use Rattle.ss_journal.specs.Kept.{IfStaged}
use Rattle.ss_journal.specs.Redo.{SlotMap, StandsFor, changed}
use Rattle.ss_journal.specs.declared.put.Put.{Put}
use Rattle.ss_records.specs.Kept.{AreKept, RecordsState, shown_by}

-- Records are settled, which are these then: the map stays, and whatever was pending is durable.
pub record SettlesRecords (records : RecordsState) (result : Result Unit Failed) (old new : Told) : Type 0 where
  pub kept : OnOk result (AreKept records new.content)
  pub keeps_map : KeepsMap old new result
  pub makes_durable : MakesDurable old new result

-- Puts are staged by records, which are others then: they show the map with them, over whichever content.
pub record StagesPuts (puts : List Put) (was is : RecordsState) (content : List ℕ) : Type 0 where
  pub kept : AreKept was content → AreKept is content
  pub map : AreKept was content → (found : SlotMap) → StandsFor (shown_by was content) found → StandsFor (shown_by is content) (changed found puts)

-- Room is made by records, which are others then: the map that they show stays.
pub record MakesRoomFor (was is : RecordsState) (result : Result Unit Failed) (old new : Told) : Type 0 where
  pub kept : OnOk result (AreKept is new.content)
  pub keeps_shown : KeepsShown was.journal is.journal old new result

-- What is staged is sealed by records, which are others then: the map that they show stays, and where something was staged
-- nothing is pending at Ok.
pub record SealsRecords (was is : RecordsState) (result : Result Unit Failed) (old new : Told) : Type 0 where
  pub kept : OnOk result (AreKept is new.content)
  pub keeps_shown : KeepsShown was.journal is.journal old new result
  pub durable : IfStaged was.journal.staged (OnOk result (NothingPending new))

-- The slot of a record is read, by records that are others then: its bytes are those of the map that they show. Content and
-- images stay.
pub record ReadsRecord (was is : RecordsState) (slot : ℕ) (result : Result (List ℕ) Failed) (old new : Told) : Type 0 where
  pub bytes : (found : SlotMap) → StandsFor (shown_by was old.content) found → IfOk result (λ bytes. bytes ≡ found.bytes slot)
  pub kept : OnOk result (AreKept is new.content)
  pub reads : OnlyReads old new
