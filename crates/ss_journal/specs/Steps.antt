-- What a step of a call leaves of the disk, and of the map.
use Rattle.std.specs.Prelude.{◌≡◌, ◌⊎◌, ℕ, List, [], ◌∷◌, length, replicate, Result, OnOk}
use Rattle.ss_outside.specs.Crash.{LeavesOnly, OnlyReads}
use Rattle.ss_outside.specs.Disk.{Told, NothingPending, overwrite}
use Rattle.ss_outside.specs.declared.source.Failed.{Failed}
use Rattle.ss_journal.specs.declared.put.Put.{Put}
use Rattle.ss_journal.specs.Birth.{magic_bytes}
use Rattle.ss_journal.specs.Calls.{KeepsMap, MakesDurable}
use Rattle.ss_journal.specs.declared.kind.Kind.{Kind}
use Rattle.ss_journal.specs.Format.{IsShut, kind_of}
use Rattle.ss_journal.specs.Gates.{entry_place}
use Rattle.ss_journal.specs.Redo.{SlotMap, StandsFor}
use Rattle.ss_journal.specs.Writes.{Tears, slot_ranges, slots_written}

-- The disk is read, and this is so of its content. Content and images stay.
pub record Finds (P : List ℕ → Type 0) (old new : Told) : Type 0 where
  pub found : P old.content
  pub reads : OnlyReads old new

-- These ranges are written, which a crash may tear, and at Ok this is the content.
pub record Rewrites (ranges : List (ℕ × ℕ)) (made : List ℕ) (result : Result Unit Failed) (old new : Told) : Type 0 where
  pub tears : Tears ranges old new
  pub written : OnOk result (new.content ≡ made)

-- bytes are written over what is there, and past the end
abbrev pub Writes : ℕ → List ℕ → Result Unit Failed → Told → Told → Type 0
Writes at bytes result old new = Rewrites ((at, length bytes) ∷ []) (overwrite old.content at bytes) result old new

-- so many zeros are written
abbrev pub WritesZeros : ℕ → ℕ → Result Unit Failed → Told → Told → Type 0
WritesZeros at count result old new = Rewrites ((at, count) ∷ []) (overwrite old.content at (replicate count 0)) result old new

-- the magic is written, unless it stands there
abbrev pub Marks : Result Unit Failed → Told → Told → Type 0
Marks result old new = Writes 1 (magic_bytes old.content) result old new

-- each put's bytes are written into its slot, in the form of a kind
abbrev pub WritesSlots : Kind → List Put → Result Unit Failed → Told → Told → Type 0
WritesSlots kind puts result old new = Rewrites (slot_ranges puts) (slots_written kind puts old.content) result old new

-- The map stays, and at Ok this is so of the content before and after.
pub record Reaches (P : List ℕ → List ℕ → Type 0) (result : Result Unit Failed) (old new : Told) : Type 0 where
  pub keeps_map : KeepsMap old new result
  pub reached : OnOk result (P old.content new.content)

-- A step after which nothing is pending at Ok, whatever was before.
pub record Durably (R : Result Unit Failed → Told → Told → Type 0) (result : Result Unit Failed) (old new : Told) : Type 0 where
  pub step : R result old new
  pub durable : OnOk result (NothingPending new)

-- no entry of a formatted file is in use, and its kind is what it was
abbrev pub StaysShut : List ℕ → List ℕ → Type 0
StaysShut old new = IsShut new × (kind_of new ≡ kind_of old)

-- What is pending is made durable, and then no entry of the formatted file is in use.
pub record Clears (result : Result Unit Failed) (old new : Told) : Type 0 where
  pub shut : Reaches StaysShut result old new
  pub makes_durable : MakesDurable old new result

-- Entries come into the file from entry n on, all or none: with nothing pending before, a crash at any moment leaves the map from
-- before or the one with them.
pub record Enters (n : ℕ) (bytes : List ℕ) (result : Result Unit Failed) (old new : Told) : Type 0 where
  pub written : OnOk result (new.content ≡ overwrite old.content (entry_place n) bytes)
  pub any_moment : NothingPending old → (before found : SlotMap) → StandsFor old.content before
      → StandsFor (overwrite old.content (entry_place n) bytes) found → LeavesOnly old new (λ image. StandsFor image before ⊎ StandsFor image found)
  pub durable : OnOk result (NothingPending new)
