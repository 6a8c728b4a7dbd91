-- What rebuilding answers.
use Rattle.std.specs.Prelude.{◌≡◌, ℕ, List, flat_map, map, zip, Option, Result, Ok, Err, IfOk, ⊤}
use Rattle.ss_outside.specs.Crash.{OnlyReads}
use Rattle.ss_outside.specs.Disk.{Told}
use Rattle.ss_outside.specs.Verdict.{Verdict, fine, refused, no_memory, failed}
use Rattle.ss_journal.specs.Redo.{SlotMap, StandsFor}
use Rattle.ss_records.specs.Kept.{AreKept, RecordsState}
use Rattle.ss_codec.specs.declared.record.Record.{Record}
use Rattle.ss_model.specs.State.{Stream}
use Rattle.ss_recover.specs.Doomed.{GoInTurn, doomed_slots}
use Rattle.ss_parts.specs.Held.{AreHeldBeside, occupied, records_held}
use Rattle.ss_recover.specs.Parts.{carried, bad_slot, bad_stream, carries}
use Rattle.ss_recover.specs.declared.parts.Parts.{Parts}
use Rattle.ss_recover.specs.declared.recover_error.RecoverError.{RecoverError}
use Rattle.ss_recover.specs.declared.recover_error.RecoverError.TheVariants.{BadSlot, BadStream, Disk, OutOfMemory}

-- These parts are what a map carries: its streams, and the slots of the records of dropped ones, which may go in turn.
pub record HasParts (parts : Parts) (found : SlotMap) : Type 0 where
  pub streams : List Stream
  pub doomed : List (ℕ × Option Record)
  pub carried : carried found ≡ carries streams
  pub held : AreHeldBeside doomed parts.streams.items streams found
  pub slots : map (λ (e : ℕ × Option Record). e.0) doomed ≡ parts.doomed.items
  pub ordered : parts.doomed.items ≡ doomed_slots (occupied found)
  pub in_turn : GoInTurn doomed (flat_map records_held (zip parts.streams.items streams))

-- the streams that a map carries are rebuilt, or it is told what is damaged
abbrev pub RebuildsAs : SlotMap → Result Parts RecoverError → Type 0
RebuildsAs found (Ok parts) = HasParts parts found
RebuildsAs found (Err (BadSlot n)) = carried found ≡ bad_slot n
RebuildsAs found (Err (BadStream id)) = carried found ≡ bad_stream id
RebuildsAs found (Err Disk) = ⊤
RebuildsAs found (Err OutOfMemory) = ⊤

-- the verdict of rebuilding
abbrev pub verdict_of_rebuild : {T : Type 0} → Result T RecoverError → Verdict
verdict_of_rebuild (Ok value) = fine
verdict_of_rebuild (Err Disk) = failed
verdict_of_rebuild (Err (BadSlot n)) = refused
verdict_of_rebuild (Err (BadStream id)) = refused
verdict_of_rebuild (Err OutOfMemory) = no_memory

-- the parts of what is answered
abbrev pub parts_of : Result (RecordsState × Parts) RecoverError → Result Parts RecoverError
parts_of (Ok read) = Ok read.1
parts_of (Err error) = Err error

-- The streams of the content's map are rebuilt, with its records, or its lowest damaged slot is told, or else its lowest damaged
-- stream. Content and images stay.
pub record Rebuilds (result : Result (RecordsState × Parts) RecoverError) (old new : Told) : Type 0 where
  pub carried : (found : SlotMap) → StandsFor old.content found → RebuildsAs found (parts_of result)
  pub kept : IfOk result (λ read. AreKept read.0 new.content)
  pub reads : OnlyReads old new
