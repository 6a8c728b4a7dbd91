-- What opening a content answers, and what is said of a stream by what is held of it.
use Rattle.std.specs.Prelude.{◌≡◌, ℕ, List, length, Option, Some, None, Result, Ok, Err, ⊤}
use Rattle.ss_model.specs.Standing.{IsState}
use Rattle.ss_model.specs.State.{Stream}
use Rattle.ss_model.specs.declared.types.Ack.{Ack}
use Rattle.ss_parts.specs.Held.{AllAgree, entries_of}
use Rattle.ss_parts.specs.declared.parts.StreamParts.{StreamParts}
use Rattle.ss_stream.specs.Held.{values_held}
use Rattle.ss_store.specs.Recover.{recover, Recovers, no_store, damaged_entry, damaged_slot, damaged_stream}
use Rattle.ss_store.specs.Kept.{StoreState}
use Rattle.ss_store.specs.declared.error.OpenError.{OpenError}
use Rattle.ss_store.specs.declared.error.OpenError.TheVariants as opening

-- what is said of a stream by what is held of it, and zeros where it doesn't stand
abbrev pub said_of_held : Option StreamParts → Ack
said_of_held None = record { n = 0; k = 0 }
said_of_held (Some part) = record { n = values_held (entries_of part); k = length part.line.entries }

-- What opening a content answers: a store of the streams that it recovers to, or why it recovers to none.
abbrev pub OpensAs : List ℕ → Result StoreState OpenError → Type 0
OpensAs content (Ok store) = (streams : List Stream) × Recovers streams content × AllAgree store.streams streams × IsState streams
OpensAs content (Err opening.Disk) = ⊤
OpensAs content (Err opening.NotAStore) = recover content ≡ no_store
OpensAs content (Err (opening.BadEntry n)) = recover content ≡ damaged_entry n
OpensAs content (Err (opening.BadSlot n)) = recover content ≡ damaged_slot n
OpensAs content (Err (opening.BadStream id)) = recover content ≡ damaged_stream id
OpensAs content (Err opening.OutOfMemory) = ⊤
OpensAs content (Err (opening.Changed slot)) = ⊥
