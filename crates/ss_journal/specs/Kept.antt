-- A journal and the content of its disk.
use Rattle.std.specs.Prelude.{◌≡◌, ◌≢◌, ℕ, ◌+◌, ◌*◌, ◌<◌, ◌≤◌, nat_lt, if◌then◌else◌, List, [], ◌∷◌, ◌++◌, length, IsTrue, All, Result, Ok, Err, ⊤}
use Rattle.ss_outside.specs.Disk.{overwrite}
use Rattle.ss_journal.specs.declared.put.Put.{Put}
use Rattle.ss_journal.specs.declared.format.TheConstants.{ENTRIES, ENTRY_SIZE, MOST_PUTS, MOST_SLOTS}
use Rattle.ss_journal.specs.declared.phase.Phase.{Phase}
use Rattle.ss_journal.specs.declared.phase.Phase.TheVariants.{Unborn, Born, Settled, Stopped}
use Rattle.ss_journal.specs.declared.journal_error.JournalError.{JournalError}
use Rattle.ss_journal.specs.declared.journal_error.JournalError.TheVariants.{Disk, NotAStore, BadEntry, OutOfMemory}
use Rattle.ss_journal.specs.Gates.{EndsAt, IsClosed, entry_place}
use Rattle.ss_journal.specs.declared.kind.Kind.{Kind}
use Rattle.ss_journal.specs.Format.{is_unborn, is_born, kind_of, slots_in}
use Rattle.ss_journal.specs.Groups.{entry_count, group_bytes}
use Rattle.ss_journal.specs.Newest.{DoAs}
use Rattle.ss_journal.specs.Puts.{FillSlots, is_put, slots_fit}
use Rattle.ss_journal.specs.Redo.{SlotMap, not_a_store, bad_entry, stands, redo, entries_in_use, puts_in_use}

-- a journal: its phase, its extent, the number of entries in use, and the newest of their puts; how many of the entries stand in the
-- file, and the puts of those after them, which are staged; and the kind of the file
pub record JournalState : Type 0 where
  pub phase : Phase
  pub extent : ℕ
  pub in_use : ℕ
  pub waiting : List Put
  pub sealed : ℕ
  pub staged : List Put
  pub kind : Kind

-- what is true of each journal, whatever the disk tells
pub record IsBounded (journal : JournalState) : Type 0 where
  pub extent : journal.extent ≤ MOST_SLOTS
  pub waiting : All (λ put. put.slot < journal.extent) journal.waiting
  pub unborn : journal.phase ≡ Unborn → journal.waiting ≡ []
  pub in_use : journal.in_use ≤ ENTRIES
  pub few : length journal.waiting ≤ MOST_PUTS * journal.sealed + length journal.staged
  -- what is staged waits too
  pub held : (slot : ℕ) → IsTrue (is_put journal.staged slot) → IsTrue (is_put journal.waiting slot)
  -- the entries in use are those of the file and those that hold what is staged
  pub number : journal.in_use ≡ journal.sealed + entry_count (length journal.staged)
  pub whole : FillSlots journal.staged

-- no call has failed
abbrev pub IsRunning : JournalState → Type 0
IsRunning journal = journal.phase ≢ Stopped

-- a call has failed
abbrev pub HasStopped : JournalState → Type 0
HasStopped journal = journal.phase ≡ Stopped

-- the file is formatted, and the gate after the entries in use is closed
abbrev pub IsSettled : JournalState → Type 0
IsSettled journal = journal.phase ≡ Settled

-- the content is formatted as the phase says, with so many entries in use
abbrev pub IsInPhase : Phase → ℕ → List ℕ → Type 0
IsInPhase Unborn in_use content = IsTrue (is_unborn content)
IsInPhase Born in_use content = IsTrue (is_born content)
IsInPhase Settled in_use content = IsTrue (is_born content) × EndsAt in_use content
IsInPhase Stopped in_use content = ⊥

-- nothing is staged
abbrev pub IsSealed : JournalState → Type 0
IsSealed journal = journal.staged ≡ []

-- the closed gate of the entry that begins so many bytes after the first, where there is one
abbrev pub gate_behind : ℕ → List ℕ
gate_behind end = if nat_lt end (ENTRY_SIZE * ENTRIES) then 0 ∷ [] else []

-- bytes of entries from entry n on, and the closed gate behind them
abbrev pub closed_behind : ℕ → List ℕ → List ℕ
closed_behind n bytes = bytes ++ gate_behind (ENTRY_SIZE * n + length bytes)

-- the content with these entries from entry n on, which are the last
abbrev pub with_entries : ℕ → List ℕ → List ℕ → List ℕ
with_entries n [] content = content
with_entries n (gate ∷ bytes) content = overwrite content (entry_place n) (closed_behind n (gate ∷ bytes))

-- the entries of what is staged
abbrev pub staged_bytes : JournalState → List ℕ
staged_bytes journal = group_bytes journal.kind journal.sealed (entry_count (length journal.staged)) journal.staged

-- what a journal shows over a content: the content with the entries of what is staged
abbrev pub shown : JournalState → List ℕ → List ℕ
shown journal content = with_entries journal.sealed (staged_bytes journal) content

-- One disk: what the journal shows over the content is as it keeps it. The puts that the journal keeps do what those of the entries in
-- use do, and once settled the gate after these is closed.
pub record IsShown (journal : JournalState) (content : List ℕ) : Type 0 where
  pub kind : journal.kind ≡ kind_of content
  pub phase : IsInPhase journal.phase journal.in_use content
  pub number : journal.in_use ≡ length (entries_in_use content)
  pub waiting : DoAs (puts_in_use content) (slots_in (length content)) journal.waiting
  pub found : SlotMap
  pub map : redo content ≡ stands found
  pub extent : found.extent ≡ journal.extent

-- a formatted content that stands for a map, whose entries in use end before entry n, the gate of which is closed
pub record EndsBefore (n : ℕ) (content : List ℕ) : Type 0 where
  pub born : IsTrue (is_born content)
  pub closed : IsClosed n content
  pub number : n ≡ length (entries_in_use content)
  pub found : SlotMap
  pub map : redo content ≡ stands found

-- a content that ends before entry n, and that stands for a map into which these puts fit
pub record HasRoomFor (n : ℕ) (puts : List Put) (content : List ℕ) : Type 0 where
  pub ends : EndsBefore n content
  pub fit : IsTrue (slots_fit puts ends.found.extent)

-- a fact where something is staged
abbrev pub IfStaged : List Put → Type 0 → Type 0
IfStaged [] P = ⊤
IfStaged (put ∷ puts) P = P

-- One disk: what the journal shows is as it keeps it, and where puts are staged the content ends before their entries.
pub record IsKept (journal : JournalState) (content : List ℕ) : Type 0 where
  pub shown : IsShown journal (shown journal content)
  pub before : IfStaged journal.staged (HasRoomFor journal.sealed journal.staged content)

-- what opening a content answers
abbrev pub OpensMapAs : List ℕ → Result JournalState JournalError → Type 0
OpensMapAs content (Ok journal) = IsKept journal content
OpensMapAs content (Err NotAStore) = redo content ≡ not_a_store
OpensMapAs content (Err (BadEntry n)) = redo content ≡ bad_entry n
OpensMapAs content (Err Disk) = ⊤
OpensMapAs content (Err OutOfMemory) = ⊤
