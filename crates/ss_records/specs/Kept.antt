-- Records and the content of their disk.
use Rattle.std.specs.Prelude.{◌≡◌, ℕ, ◌<◌, ◌≤◌, Bool, true, List, [], length}
use Rattle.ss_journal.specs.declared.format.TheConstants.{MOST_SLOTS}
use Rattle.ss_journal.specs.Kept.{JournalState, IsKept, IsRunning, IsSealed, IsSettled, shown}
use Rattle.ss_journal.specs.Redo.{SlotMap, StandsFor}
use Rattle.ss_records.specs.Live.{is_live, AreLiveBelow, AreLiveIn}
use Rattle.ss_records.specs.Pages.{ArePages}
use Rattle.ss_records.specs.declared.pages.TheConstants.{MOST_CACHED}

-- records: their journal, of each slot whether it is live, and the pages that are cached, the most recently used first
pub record RecordsState : Type 0 where
  pub journal : JournalState
  pub live : List Bool
  pub cached : List (ℕ × List ℕ)

-- what records show over a content: the content with the transactions that are staged
abbrev pub shown_by : RecordsState → List ℕ → List ℕ
shown_by records content = shown records.journal content

-- records over a journal, of which these slots are live, and no page is cached
abbrev pub uncached : JournalState → List Bool → RecordsState
uncached journal live = record { journal = journal; live = live; cached = [] }

-- the slots below the journal's extent are live as they are in the map that it shows over a content
abbrev pub AreLiveOver : JournalState → List Bool → List ℕ → Type 0
AreLiveOver journal live content = (found : SlotMap) → StandsFor (shown journal content) found → AreLiveBelow journal.extent live found.bytes

-- One disk: what is said of a journal; and the free slots and every cached page are those of the map that the records show.
pub record AreKept (records : RecordsState) (content : List ℕ) : Type 0 where
  pub journal : IsKept records.journal content
  pub free : (found : SlotMap) → StandsFor (shown_by records content) found → AreLiveIn records.live found.bytes
  pub cached : (found : SlotMap) → StandsFor (shown_by records content) found → ArePages records.cached found.bytes

-- the file is formatted, the gate after the entries in use is closed, and nothing is staged
abbrev pub AreAtRest : RecordsState → Type 0
AreAtRest records = IsSettled records.journal × IsSealed records.journal

-- What is true of records over every disk, whatever it tells.
pub record AreSound (records : RecordsState) : Type 0 where
  pub slots : length records.live ≡ MOST_SLOTS
  -- while no call has failed, each live slot lies below the extent
  pub below : IsRunning records.journal → (slot : ℕ) → is_live records.live slot ≡ true → slot < records.journal.extent
  pub few : length records.cached ≤ MOST_CACHED
