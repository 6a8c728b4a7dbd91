-- What taking rows adds to a text.
use Rattle.std.specs.Prelude.{◌≡◌, ◌++◌, ℕ, List, Option, Some, Result, IfOk, IfSome}
use Rattle.ss_connection.specs.Holds.{IsPiece, text_left}
use Rattle.ss_outside.specs.Crash.{OnlyReads}
use Rattle.ss_outside.specs.Disk.{Told}
use Rattle.ss_parts.specs.declared.parts.StreamParts.{StreamParts}
use Rattle.ss_program.specs.Line.{History}
use Rattle.ss_program.specs.Rows.{RowsStand}
use Rattle.ss_program.specs.declared.rows.Rows.{Rows}
use Rattle.ss_program.specs.declared.status.Status.{Status}
use Rattle.ss_store.specs.Recover.{Stands}

-- The first of the rows come behind a text, after each history for which the content stands, and the others are left.
pub record Fills (parts : List StreamParts) (rows : Rows) (before after : List ℕ) (result : Result (Option Rows) Status) (old new : Told) : Type 0 where
  pub says : (history : History) → Stands history old.content →
      IfOk result (λ left. before ++ text_left (Some rows) parts history ≡ after ++ text_left left parts history)
  pub reads : OnlyReads old new

-- Rows are left where the text is full, and can be taken.
pub record IsFilled (parts : List StreamParts) (after : List ℕ) (left : Option Rows) : Type 0 where
  pub stand : IfSome left (RowsStand parts)
  pub piece : IsPiece after left
