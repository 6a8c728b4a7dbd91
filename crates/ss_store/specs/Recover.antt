-- What an image stands for: the state that opening it gives.
use Rattle.std.specs.Prelude.{◌≡◌, ℕ, List}
use Rattle.ss_journal.specs.Redo.{Redone, redo, not_a_store, bad_entry, stands}
use Rattle.ss_model.specs.History.{Happened}
use Rattle.ss_model.specs.ClosedState.{closed_state}
use Rattle.ss_model.specs.Refusals.{IsHistory}
use Rattle.ss_model.specs.State.{Stream, state}
use Rattle.ss_recover.specs.Parts.{Carried, carried, bad_slot, bad_stream, carries}

-- what an image is: no store, or the first damage that is found, or the streams of a store
pub data Recovered : Type 0 where
  no_store : Recovered
  damaged_entry : ℕ → Recovered
  damaged_slot : ℕ → Recovered
  damaged_stream : ℕ → Recovered
  recovers : List Stream → Recovered

-- what records carry, with each run of windows joined that is due
abbrev pub recovered_of : Carried → Recovered
recovered_of (bad_slot n) = damaged_slot n
recovered_of (bad_stream number) = damaged_stream number
recovered_of (carries streams) = recovers (closed_state streams)

-- what was redone
abbrev pub recovered_from : Redone → Recovered
recovered_from not_a_store = no_store
recovered_from (bad_entry n) = damaged_entry n
recovered_from (stands found) = recovered_of (carried found)

-- the entries in use are redone, the records read, and the merges made that are due
unfoldable pub recover : List ℕ → Recovered
recover image = recovered_from (redo image)

-- the image recovers to these streams
abbrev pub Recovers : List Stream → List ℕ → Type 0
Recovers streams image = recover image ≡ recovers streams

-- the image stands for a history
pub record Stands (history : List Happened) (image : List ℕ) : Type 0 where
  pub is_history : IsHistory history
  pub state : Recovers (state history) image
