-- What a connection holds: a history, and events that are staged behind it.
use Rattle.std.specs.Prelude.{◌≡◌, ◌<◌, ◌≤◌, ◌+◌, ◌++◌, [], ℕ, List, Option, None, Some, IfSome, flat_map, length}
use Rattle.ss_connection.specs.declared.text.TheConstants.{LONGEST_REPLY, MOST_SAID}
use Rattle.ss_journal.specs.Kept.{IsSealed}
use Rattle.ss_model.specs.History.{Happened}
use Rattle.ss_model.specs.State.{state}
use Rattle.ss_outside.specs.Disk.{DiskView, NothingPending, Told}
use Rattle.ss_parts.specs.declared.parts.StreamParts.{StreamParts}
use Rattle.ss_program.specs.Answer.{IsServing}
use Rattle.ss_program.specs.Held.{StandsForFirst}
use Rattle.ss_program.specs.Line.{History}
use Rattle.ss_program.specs.Rows.{RowsStand, rows_left}
use Rattle.ss_program.specs.declared.rows.Rows.{Rows}
use Rattle.ss_program.specs.declared.status.Status.{Status}
use Rattle.ss_records.specs.Kept.{RecordsState, shown_by}
use Rattle.ss_report.specs.Text.{reply_line}
use Rattle.ss_store.specs.Kept.{StoreState}
use Rattle.ss_store.specs.Recover.{Stands}

-- what contracts see of a connection: its store, the text of what was said last, the rows that are still to be said, and why it has
-- ended, where it has
pub record ConnectionState : Type 0 where
  pub store : StoreState
  pub said : List ℕ
  pub rows : Option Rows
  pub ended : Option Status

-- Rows that are still to be said can be taken from the store, in which nothing is staged then.
pub record CanBeTaken (store : StoreState) (rows : Rows) : Type 0 where
  pub stand : RowsStand store.streams rows
  pub sealed : IsSealed store.records.journal

-- What was said fits, and rows are left only where there isn't room for one more.
pub record IsPiece (said : List ℕ) (left : Option Rows) : Type 0 where
  pub fits : length said ≤ MOST_SAID
  pub full : IfSome left (λ rows. MOST_SAID < length said + LONGEST_REPLY)

-- The store can be called, and so can the rows be taken that are left behind what was said.
pub record IsGoing (disk : DiskView) (connection : ConnectionState) : Type 0 where
  pub serves : IsServing disk connection.store
  pub rows : IfSome connection.rows (CanBeTaken connection.store)
  pub piece : IsPiece connection.said connection.rows

-- so it is unless the connection has ended
abbrev pub IsUsable : DiskView → ConnectionState → Type 0
IsUsable disk connection = connection.ended ≡ None → IsGoing disk connection

-- the text of rows that are still to be said, over a store that shows a history
abbrev pub text_left : Option Rows → List StreamParts → History → List ℕ
text_left None parts history = []
text_left (Some rows) parts history = flat_map reply_line (rows_left rows parts (state history))

-- Records show a history with the events that were staged behind it, and the disk stands for the history with some first of these, with
-- nothing pending. Where no event is staged, the disk stands for the history.
pub record Holds (history : History) (staged : List Happened) (records : RecordsState) (disk : Told) : Type 0 where
  pub shown : Stands (history ++ staged) (shown_by records disk.content)
  pub within : StandsForFirst history staged disk.content
  pub durable : NothingPending disk
