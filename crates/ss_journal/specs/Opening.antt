-- What reading a file from its beginning answers.
use Rattle.std.specs.Prelude.{◌≡◌, ℕ, ◌*◌, ◌<◌, ◌≤◌, List, length, All, Option, Some, None, Result, Ok, Err, IsTrue, IsFalse, ⊤}
use Rattle.arrayvec.specs.ArrayVec.{ArrayVec}
use Rattle.ss_outside.specs.Disk.{IsReadFrom}
use Rattle.ss_journal.specs.declared.put.Put.{Put}
use Rattle.ss_journal.specs.declared.journal_error.JournalError.{JournalError}
use Rattle.ss_journal.specs.declared.journal_error.JournalError.TheVariants.{Disk, NotAStore, BadEntry, OutOfMemory}
use Rattle.ss_journal.specs.declared.format.TheConstants.{ENTRIES, MOST_PUTS, MOST_SLOTS}
use Rattle.ss_journal.specs.declared.opening.EntriesRead.{EntriesRead}
use Rattle.ss_journal.specs.Gates.{is_open}
use Rattle.ss_journal.specs.Entries.{is_good, puts_of}
use Rattle.ss_journal.specs.Redo.{bad_entry, redo, entries_in_use, InUse}

-- the length of an image and its first nine bytes, with zeros past its end
pub record IsHead (size : ℕ) (first image : List ℕ) : Type 0 where
  pub whole : size ≡ length image
  pub nine : length first ≡ 9
  pub bytes : IsReadFrom image 0 first

-- what reading entry n over this extent answers
abbrev pub NextAs : List ℕ → ℕ → ℕ → Result (Option (ArrayVec Put)) JournalError → Type 0
NextAs entry n extent (Ok None) = IsFalse (is_open entry)
NextAs entry n extent (Ok (Some puts)) =
    IsTrue (is_open entry) × IsTrue (is_good entry extent) × (puts.items ≡ puts_of entry)
NextAs entry n extent (Err (BadEntry bad)) = IsTrue (is_open entry) × IsFalse (is_good entry extent) × (bad ≡ n)
NextAs entry n extent (Err NotAStore) = ⊥
NextAs entry n extent (Err Disk) = ⊤
NextAs entry n extent (Err OutOfMemory) = ⊤

-- a fact on the puts of an entry in use
abbrev pub IfNext : Result (Option (ArrayVec Put)) JournalError → (List Put → Type 0) → Type 0
IfNext (Ok (Some puts)) P = P puts.items
IfNext (Ok None) P = ⊤
IfNext (Err error) P = ⊤

-- so many entries of a content are in use, these puts do what theirs do, and this is the extent after them
pub record AreEntries (content : List ℕ) (count : ℕ) (puts : List Put) (last : ℕ) : Type 0 where
  pub number : count ≡ length (entries_in_use content)
  pub in_use : InUse puts content
  pub extent : in_use.found.extent ≡ last

-- The numbers of what was read stay in their bounds, whatever the disk tells.
pub record AreBounded (read : EntriesRead) : Type 0 where
  pub extent : read.extent ≤ MOST_SLOTS
  pub waiting : All (λ put. put.slot < read.extent) read.waiting
  pub number : read.in_use ≤ ENTRIES
  pub few : length read.waiting ≤ MOST_PUTS * read.in_use

-- what reading the entries of a content answers
abbrev pub InUseAs : List ℕ → Result EntriesRead JournalError → Type 0
InUseAs content (Ok read) = AreEntries content read.in_use read.waiting read.extent
InUseAs content (Err (BadEntry n)) = redo content ≡ bad_entry n
InUseAs content (Err NotAStore) = ⊥
InUseAs content (Err Disk) = ⊤
InUseAs content (Err OutOfMemory) = ⊤
