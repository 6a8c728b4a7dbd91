-- What the calls of a journal leave of the map, also in a crash, and what they make of the journal.
use Rattle.std.specs.Prelude.{Bool, true, not, ◌&&◌, ◌||◌, ◌≡◌, ◌⊎◌, ℕ, ◌+◌, ◌*◌, ◌<◌, ◌≤◌, nat_lt, if◌then◌else◌, List, length, take, drop}
use Rattle.std.specs.Prelude.{Result, Ok, Err, IfOk, OnOk, IsTrue, IsFalse}
use Rattle.ss_outside.specs.Crash.{LeavesOnly, OnlyReads}
use Rattle.ss_outside.specs.Verdict.{Verdict, fine, refused, no_memory, failed}
use Rattle.ss_outside.specs.declared.source.Failed.{Failed}
use Rattle.ss_outside.specs.Disk.{Told, NothingPending, SyncsAtMost}
use Rattle.ss_journal.specs.declared.put.Put.{Put}
use Rattle.ss_journal.specs.declared.journal_error.JournalError.{JournalError}
use Rattle.ss_journal.specs.declared.journal_error.JournalError.TheVariants.{Disk, NotAStore, BadEntry, OutOfMemory}
use Rattle.ss_journal.specs.declared.format.TheConstants.{ENTRIES, PAGE_SLOTS}
use Rattle.ss_base.specs.declared.limits.TheConstants.{SLOT_SIZE}
use Rattle.ss_journal.specs.declared.kind.Kind.TheVariants.{Checked}
use Rattle.ss_journal.specs.Birth.{has_no_kind}
use Rattle.ss_journal.specs.Format.{is_unborn, is_born, is_plain, kind_of}
use Rattle.ss_journal.specs.Groups.{entry_count}
use Rattle.ss_journal.specs.Kept.{IfStaged, JournalState, IsKept, IsSealed, IsSettled, OpensMapAs, shown}
use Rattle.ss_journal.specs.Newest.{newest_after}
use Rattle.ss_journal.specs.Puts.{extent_after}
use Rattle.ss_journal.specs.Redo.{SlotMap, StandsFor, changed}
use Rattle.ss_journal.specs.Writes.{SameRest}

-- A call leaves the map as it is.
pub record KeepsMap {T E : Type 0} (old new : Told) (result : Result T E) : Type 0 where
  -- at Ok the content stands for the same map
  pub map : (found : SlotMap) → StandsFor old.content found → OnOk result (StandsFor new.content found)
  -- with nothing pending at the call, a crash at any moment of it leaves the same map
  pub any_moment : NothingPending old → (found : SlotMap) → StandsFor old.content found → LeavesOnly old new (λ image. StandsFor image found)
  -- and at Ok nothing is pending
  pub durable : NothingPending old → OnOk result (NothingPending new)

-- What a journal shows stays over a call, by which it becomes another: what was staged comes to the disk as a whole, if it does.
pub record KeepsShown {T E : Type 0} (was is : JournalState) (old new : Told) (result : Result T E) : Type 0 where
  -- at Ok the journal shows the same map
  pub map : (found : SlotMap) → StandsFor (shown was old.content) found → OnOk result (StandsFor (shown is new.content) found)
  -- with nothing pending at the call, a crash at any moment of it leaves the map of the content or the one that the journal shows
  pub any_moment : NothingPending old → (before found : SlotMap) → StandsFor old.content before → StandsFor (shown was old.content) found
      → LeavesOnly old new (λ image. StandsFor image before ⊎ StandsFor image found)
  -- and at Ok nothing is pending
  pub durable : NothingPending old → OnOk result (NothingPending new)

-- A call makes what was pending durable, and then keeps the map.
pub record MakesDurable {T E : Type 0} (old new : Told) (result : Result T E) : Type 0 where
  -- at Ok nothing is pending, whatever was pending at the call
  pub durable : OnOk result (NothingPending new)
  -- a crash at any moment of it leaves what one might have left before the call, or, from its first sync on, the map of the
  -- content
  pub any_moment : IsTrue (is_born old.content) → (found : SlotMap) → StandsFor old.content found
      → LeavesOnly old new (λ image. old.may_leave image ⊎ StandsFor image found)

-- the verdict of opening a disk
abbrev pub verdict_of_open : {T : Type 0} → Result T JournalError → Verdict
verdict_of_open (Ok value) = fine
verdict_of_open (Err Disk) = failed
verdict_of_open (Err NotAStore) = refused
verdict_of_open (Err (BadEntry n)) = refused
verdict_of_open (Err OutOfMemory) = no_memory

-- A disk is opened: the answer is the map of its content, or why it has none. Content and images stay.
pub record Opens (result : Result JournalState JournalError) (old new : Told) : Type 0 where
  pub opens : OpensMapAs old.content result
  pub reads : OnlyReads old new

-- A journal is settled, which is this then: the map stays, and whatever was pending is durable.
pub record Settles (journal : JournalState) (result : Result Unit Failed) (old new : Told) : Type 0 where
  pub kept : OnOk result (IsKept journal new.content)
  pub keeps_map : KeepsMap old new result
  pub makes_durable : MakesDurable old new result
  -- a birth leaves what lies after the last slot that a file can have
  pub rest : IsTrue (is_unborn old.content) → OnOk result (SameRest old.content new.content)

-- A store is made a checked one, before it is formatted: the map stays, also in a crash at any moment of it. At Ok a plain store
-- stands there, or if any does a checked one.
pub record MakesChecked (result : Result Bool Failed) (old new : Told) : Type 0 where
  pub keeps_map : KeepsMap old new result
  pub is : IfOk result (λ is. is ≡ not (is_plain old.content))
  pub checked : IfOk result (λ is. is ≡ true → IsTrue (is_born new.content || is_unborn new.content) → kind_of new.content ≡ Checked)
  -- only a file that isn't formatted, and with which no kind stays, is written
  pub unwritten : IsFalse (is_unborn old.content && has_no_kind old.content) → OnlyReads old new
  pub rest : IfOk result (λ _. SameRest old.content new.content)

-- A journal makes room, and is this then: the map that it shows stays.
pub record MakesRoom (was is : JournalState) (result : Result Unit Failed) (old new : Told) : Type 0 where
  pub kept : OnOk result (IsKept is new.content)
  pub keeps_shown : KeepsShown was is old new result

-- Room is made by so many syncs at most: two that seal what is staged, and two that settle. Where nothing is staged none seals.
pub record SyncsForRoom (journal : JournalState) (old new : Told) : Type 0 where
  pub most : SyncsAtMost 4 old new
  pub sealed : IsSealed journal → SyncsAtMost 2 old new

-- A journal seals what is staged, and is this then: the map that it shows stays, and where something was staged nothing is
-- pending at Ok.
pub record Seals (was is : JournalState) (result : Result Unit Failed) (old new : Told) : Type 0 where
  pub kept : OnOk result (IsKept is new.content)
  pub keeps_shown : KeepsShown was is old new result
  pub durable : IfStaged was.staged (OnOk result (NothingPending new))

-- A slot is read: its bytes are those of the map that the journal shows. Content and images stay.
pub record ReadsSlot (journal : JournalState) (slot : ℕ) (result : Result (List ℕ) Failed) (old new : Told) : Type 0 where
  pub bytes : (found : SlotMap) → StandsFor (shown journal old.content) found → IfOk result (λ bytes. bytes ≡ found.bytes slot)
  pub reads : OnlyReads old new

-- the bytes of a slot within those of its page, of which it is number k
abbrev pub slot_in_page : List ℕ → ℕ → List ℕ
slot_in_page bytes k = take SLOT_SIZE (drop (SLOT_SIZE * k) bytes)

-- A page is read: its bytes are those of its slots in the map that the journal shows. Content and images stay.
pub record ReadsPage (journal : JournalState) (page : ℕ) (result : Result (List ℕ) Failed) (old new : Told) : Type 0 where
  pub bytes : (found : SlotMap) → StandsFor (shown journal old.content) found →
      IfOk result (λ bytes. (k : ℕ) → k < PAGE_SLOTS → slot_in_page bytes k ≡ found.bytes (PAGE_SLOTS * page + k))
  pub reads : OnlyReads old new

-- What a settling makes of a journal, over every disk: no entry is in use.
pub record HasSettled (old new : JournalState) : Type 0 where
  pub kind : new.kind ≡ old.kind
  pub settled : IsSettled new
  pub extent : new.extent ≡ old.extent
  pub in_use : new.in_use ≡ 0
  pub sealed : IsSealed new

-- how many entries are in use after one more: where all were, they are settled before
abbrev pub entries_after : ℕ → ℕ
entries_after in_use = if nat_lt in_use ENTRIES then in_use + 1 else 1

-- What making room makes of a journal, over every disk: an entry is free, and where nothing was staged nothing is.
pub record HasMadeRoom (old new : JournalState) : Type 0 where
  pub kind : new.kind ≡ old.kind
  pub settled : IsSettled new
  pub extent : new.extent ≡ old.extent
  pub room : new.in_use < ENTRIES
  pub in_use : new.in_use + 1 ≡ entries_after old.in_use
  pub sealed : IsSealed old → IsSealed new

-- What sealing makes of a journal, over every disk: all of its entries stand in the file.
pub record HasSealed (old new : JournalState) : Type 0 where
  pub kind : new.kind ≡ old.kind
  pub settled : IsSettled new
  pub extent : new.extent ≡ old.extent
  pub in_use : new.in_use ≡ old.in_use
  pub waiting : new.waiting ≡ old.waiting
  pub sealed : IsSealed new

-- What staging these puts makes of a journal, over every disk: of all that is staged each slot's newest put alone, in as few entries as
-- hold them. So they take an entry more at most, and just one where nothing was staged.
pub record HasStaged (puts : List Put) (old new : JournalState) : Type 0 where
  pub kind : new.kind ≡ old.kind
  pub settled : IsSettled new
  pub extent : new.extent ≡ extent_after puts old.extent
  pub staged : new.staged ≡ newest_after puts old.staged
  pub some : 0 < length new.staged
  pub number : new.in_use ≡ old.sealed + entry_count (length new.staged)
  pub in_use : new.in_use ≤ old.in_use + 1
  pub first : IsSealed old → new.in_use ≡ old.in_use + 1

-- A journal over a content became another by staging these puts: it shows the map with them.
pub record Stages (puts : List Put) (was is : JournalState) (content : List ℕ) : Type 0 where
  pub kept : IsKept was content → IsKept is content
  pub map : IsKept was content → (found : SlotMap) → StandsFor (shown was content) found → StandsFor (shown is content) (changed found puts)
