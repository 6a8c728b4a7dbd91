-- What opening a cursor does.
use Rattle.std.specs.Prelude.{◌≡◌, ◌↔◌, ℕ, List, length, slice_get, Option, Some, is_some, IfSome, IfOk, OnOk, Result, Err}
use Rattle.std.specs.Option.{option_map}
use Rattle.ss_catalog.specs.declared.refusal.Refusal.{Refusal}
use Rattle.ss_line.specs.Line.{index_of}
use Rattle.ss_line.specs.declared.entry.At.{At}
use Rattle.ss_model.specs.Refusals.{first_that_applies}
use Rattle.ss_model.specs.State.{Stream, stream_numbered}
use Rattle.ss_model.specs.declared.types.Placed.{Placed}
use Rattle.ss_outside.specs.Crash.{OnlyReads}
use Rattle.ss_outside.specs.Disk.{Told}
use Rattle.ss_records.specs.Kept.{RecordsState, shown_by}
use Rattle.ss_parts.specs.declared.parts.StreamParts.{StreamParts}
use Rattle.ss_store.specs.Kept.{StoreState, part_named, part_numbered}
use Rattle.ss_store.specs.Recover.{Recovers}
use Rattle.ss_sessions.specs.Cursors.{Cursors, cursor_of, cursor_refusals, cursor_rows, cursor_opened, refuses_cursor, with_cursor}
use Rattle.ss_sessions.specs.Errors.{refusal_of}
use Rattle.ss_sessions.specs.declared.error.CursorError.{CursorError}
use Rattle.ss_sessions.specs.declared.error.CursorError.TheVariants.{Refused}
use Rattle.ss_sessions.specs.declared.error.CursorRefusal.{CursorRefusal}

-- why a cursor is refused, by what is held of the streams, where it is
unfoldable pub refuses_cursor_held : List StreamParts → List ℕ → Option (List Placed) → Option Refusal
refuses_cursor_held parts name cursor = first_that_applies (cursor_refusals (is_some (part_named name parts)) cursor)

-- Over every disk, a session has a cursor of so many rows, and those of the others stay.
pub record HasOpened (session : ℕ) (before after : Cursors) (shown : ℕ) : Type 0 where
  pub rows : List Placed
  pub count : shown ≡ length rows
  pub cursors : after ≡ with_cursor before session (Some rows)
  pub cursor : cursor_of after session ≡ Some rows

-- The window at a place of the stream of a number is read, of what a store shows. Content and images stay.
pub record CopiesRow (number : ℕ) (at : At) (store : StoreState) (result : Result Placed CursorError) (old new : Told) : Type 0 where
  -- that of the state that it shows
  pub row : (streams : List Stream) → Recovers streams (shown_by store.records old.content) →
      IfOk result (λ row. IfSome (part_numbered number store.streams) (λ part. IfSome (stream_numbered number streams) (λ s.
      slice_get (cursor_rows s) (index_of part.line.entries at) ≡ Some row)))
  pub reads : OnlyReads old new

-- The windows of the stream of a number are copied, of what a store shows. Content and images stay.
pub record CopiesRows (number : ℕ) (store : StoreState) (result : Result (List Placed) CursorError) (old new : Told) : Type 0 where
  -- all of the stream in the state that it shows
  pub rows : (streams : List Stream) → Recovers streams (shown_by store.records old.content) →
      IfOk result (λ rows. option_map cursor_rows (stream_numbered number streams) ≡ Some rows)
  pub reads : OnlyReads old new

-- A cursor is opened, over what records show. Content and images stay.
pub record OpensCursor (was : RecordsState) (session : ℕ) (name : List ℕ) (before after : Cursors) (result : Result ℕ CursorError)
    (old new : Told) : Type 0 where
  -- its rows are the windows of the stream in the state that they show
  pub opened : (streams : List Stream) → Recovers streams (shown_by was old.content) →
      OnOk result (cursor_opened before session name streams ≡ Some after)
  -- each refusal exactly where it applies in that state
  pub refused : (streams : List Stream) → Recovers streams (shown_by was old.content) → (r : CursorRefusal) →
      (result ≡ Err (Refused r)) ↔ (refuses_cursor streams name (cursor_of before session) ≡ Some (refusal_of r))
  pub reads : OnlyReads old new
