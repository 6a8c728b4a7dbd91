-- When a transaction may be staged for the next entry, and what that entry adds.
use Rattle.ss_journal.proofs.Common.{Put, EndsAt, is_born, kind_of, entry_count, slots_fit, SlotMap, stands, redo, entries_in_use, puts_in_use}
use Rattle.std.specs.Prelude.{◌≡◌, ℕ, ◌+◌, List, ◌++◌, length, IsTrue}

-- a formatted content with n entries in use, the gate after them closed, that stands for a map into which these puts fit
pub record IsReadyFor (n : ℕ) (puts : List Put) (content : List ℕ) : Type 0 where
  pub born : IsTrue (is_born content)
  pub closed : EndsAt n content
  pub number : n ≡ length (entries_in_use content)
  pub found : SlotMap
  pub map : redo content ≡ stands found
  pub fit : IsTrue (slots_fit puts found.extent)

-- entry n, of these puts, is in use after those before it, and the gate after it is closed
pub record AddsEntry (n : ℕ) (puts : List Put) (old new : List ℕ) : Type 0 where
  pub kind : kind_of new ≡ kind_of old
  pub born : IsTrue (is_born new)
  pub closed : EndsAt (n + 1) new
  pub number : n + 1 ≡ length (entries_in_use new)
  pub all : puts_in_use new ≡ puts_in_use old ++ puts

-- the entries from number n on, of these puts, are in use after those before them, and the gate after them is closed
pub record AddsGroup (n : ℕ) (puts : List Put) (old new : List ℕ) : Type 0 where
  pub size : length new ≡ length old
  pub kind : kind_of new ≡ kind_of old
  pub born : IsTrue (is_born new)
  pub closed : EndsAt (n + entry_count (length puts)) new
  pub number : n + entry_count (length puts) ≡ length (entries_in_use new)
  pub all : puts_in_use new ≡ puts_in_use old ++ puts
