-- What reading the slots of a map gives.
use Rattle.std.specs.Prelude.{◌≡◌, ◌≢◌, ◌⊎◌, ℕ, ◌<◌, All, List, filter, map, Some, None, Result, Ok, Err, ⊤}
use Rattle.std.specs.List.{range_with_len}
use Rattle.ss_outside.specs.Crash.{OnlyReads}
use Rattle.ss_outside.specs.Disk.{Told}
use Rattle.ss_journal.specs.Redo.{SlotMap, StandsFor}
use Rattle.ss_records.specs.Live.{is_live, LiveLieBelow, AreLiveBelow}
use Rattle.ss_codec.specs.Decoded.{decoded}
use Rattle.ss_codec.specs.declared.record.Record.TheVariants.{Free}
use Rattle.ss_recover.specs.Carried.{spelled}
use Rattle.ss_parts.specs.Held.{occupied}
use Rattle.ss_recover.specs.Parts.{lowest_bad_slot}
use Rattle.ss_recover.specs.Usable.{IsUsable, with_slot}
use Rattle.ss_recover.specs.declared.found.Found.{Found}
use Rattle.ss_recover.specs.declared.gathering.Gathered.{Gathered}
use Rattle.ss_recover.specs.declared.recover_error.RecoverError.{RecoverError}
use Rattle.ss_recover.specs.declared.recover_error.RecoverError.TheVariants.{BadSlot, BadStream, Disk, OutOfMemory}

-- the bytes of a slot that isn't free spell no record
abbrev pub SpellsNone : List ℕ → Type 0
SpellsNone bytes = (decoded bytes ≡ None) ⊎ (decoded bytes ≡ Some Free)

-- the records are those of the slots that aren't zeros, in the order of the slots, and each of these spells one
pub record AreFound (all : List Found) (found : SlotMap) : Type 0 where
  pub occupied_by : map with_slot all ≡ occupied found
  pub spelled_all : (slot : ℕ) → slot < found.extent → decoded (found.bytes slot) ≢ None

-- the slots below one of a map, and none of those from there on
abbrev pub below : ℕ → SlotMap → SlotMap
below slot found = record { bytes = found.bytes; extent = slot }

-- What was read of the slots below one, whatever the disk tells: the live ones hold these records.
pub record AreGathered (slot : ℕ) (read : Gathered) : Type 0 where
  pub usable : All (λ (f : Found). IsUsable f.holds) read.all.items
  pub slots : map (λ (f : Found). f.slot) read.all.items ≡ filter (is_live read.live) (range_with_len 0 slot)
  pub bounded : LiveLieBelow slot read.live

-- The same, of a map.
pub record AreFoundBelow (slot : ℕ) (read : Gathered) (found : SlotMap) : Type 0 where
  pub are : AreFound read.all.items (below slot found)
  pub live : AreLiveBelow slot read.live found.bytes

-- the lowest of the slots below one that spells no record
pub record IsLowestBad (slot n : ℕ) (found : SlotMap) : Type 0 where
  pub below : n < slot
  pub spelled_before : (k : ℕ) → k < n → decoded (found.bytes k) ≢ None
  pub none : decoded (found.bytes n) ≡ None

-- what reading the slots of a map below one gives, the lower ones first
abbrev pub FindsTo : ℕ → Gathered → SlotMap → Result ⊤ ℕ → Type 0
FindsTo slot read found (Ok done) = AreFoundBelow slot read found
FindsTo slot read found (Err n) = IsLowestBad slot n found

-- what reading all slots of a map gives
abbrev pub GathersAs : SlotMap → Result Gathered RecoverError → Type 0
GathersAs found (Ok read) = AreFoundBelow found.extent read found
GathersAs found (Err (BadSlot n)) = lowest_bad_slot (spelled found) ≡ Some n
GathersAs found (Err (BadStream number)) = ⊥
GathersAs found (Err Disk) = ⊤
GathersAs found (Err OutOfMemory) = ⊤

-- Slots are read, and this is found of the content's map. Content and images stay.
pub record FindsOut (P : SlotMap → Type 0) (old new : Told) : Type 0 where
  pub found : (found : SlotMap) → StandsFor old.content found → P found
  pub reads : OnlyReads old new
