-- What is rebuilt of the records of a content.
use Rattle.std.specs.Prelude.{◌≡◌, ℕ, List, flat_map, map, zip, Err, IfErr, IfOk, Option, Result}
use Rattle.ss_outside.specs.Crash.{OnlyReads}
use Rattle.ss_outside.specs.Disk.{Told}
use Rattle.ss_records.specs.Kept.{AreKept, RecordsState}
use Rattle.ss_codec.specs.declared.record.Record.{Record}
use Rattle.ss_model.specs.Standing.{IsState}
use Rattle.ss_model.specs.State.{Stream}
use Rattle.ss_parts.specs.Held.{AllAgree, records_held}
use Rattle.ss_recover.specs.declared.parts.Parts.{Parts}
use Rattle.ss_parts.specs.declared.parts.StreamParts.{StreamParts}
use Rattle.ss_parts.specs.Slots.{HasRecords}
use Rattle.ss_store.specs.Causes.{OpensAs}
use Rattle.ss_store.specs.Clearing.{HasDoomed}
use Rattle.ss_store.specs.declared.error.OpenError.{OpenError}

-- the records of streams, each in the slot where it is held
abbrev pub HasRebuilt : List StreamParts → List Stream → List ℕ → Type 0
HasRebuilt parts streams = HasRecords (flat_map records_held (zip parts streams))

-- An image has the records of streams, each in the slot where it is held, beside those of dropped streams, which lie in these slots.
pub record HasRebuiltBeside (slots : List ℕ) (parts : List StreamParts) (streams : List Stream) (image : List ℕ) : Type 0 where
  pub doomed : List (ℕ × Option Record)
  pub lie_in : map (λ (e : ℕ × Option Record). e.0) doomed ≡ slots
  pub records : HasDoomed doomed (flat_map records_held (zip parts streams)) streams image

-- What was rebuilt stands for a state, and its records are those of the content, beside those of dropped streams in these slots.
pub record IsRebuilt (slots : List ℕ) (parts : List StreamParts) (content : List ℕ) : Type 0 where
  pub streams : List Stream
  pub state : IsState streams
  pub agree : AllAgree parts streams
  pub records : HasRebuiltBeside slots parts streams content

-- All that a disk holds is read: the streams that the records of the content carry, or why it recovers to none. Content and
-- images stay.
pub record ReadsAll (result : Result (RecordsState × Parts) OpenError) (old new : Told) : Type 0 where
  pub rebuilt : IfOk result (λ read. IsRebuilt read.1.doomed.items read.1.streams.items old.content)
  pub opens : IfErr result (λ error. OpensAs old.content (Err error))
  pub kept : IfOk result (λ read. AreKept read.0 new.content)
  pub reads : OnlyReads old new
