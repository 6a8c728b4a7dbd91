-- The records in the slots of an image.
use Rattle.std.specs.Prelude.{ℕ, List, Option, ◌++◌}
use Rattle.std.specs.List.Sorted.{IsPermutation}
use Rattle.ss_journal.specs.Redo.{SlotMap, StandsFor}
use Rattle.ss_codec.specs.declared.record.Record.{Record}
use Rattle.ss_model.specs.Standing.{IsStream}
use Rattle.ss_model.specs.State.{Stream}
use Rattle.ss_parts.specs.Held.{occupied, Agrees, records_held}
use Rattle.ss_parts.specs.declared.parts.StreamParts.{StreamParts}

-- the image stands for a map whose slots that aren't zeros are these, each with its record, in whichever order
pub record HasRecords (slots : List (ℕ × Option Record)) (image : List ℕ) : Type 0 where
  pub found : SlotMap
  pub map : StandsFor image found
  pub occupied : IsPermutation slots (occupied found)

-- What is held agrees with the stream, and its records lie in an image beside the others, each in the slot where it is held.
pub record IsHeldIn (others : List (ℕ × Option Record)) (part : StreamParts) (s : Stream) (image : List ℕ) : Type 0 where
  pub agrees : Agrees part s
  pub stream : IsStream s
  pub records : HasRecords (records_held (part, s) ++ others) image
