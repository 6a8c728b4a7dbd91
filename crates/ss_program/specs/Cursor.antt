-- What an order of a session brings: what is done to the history and the cursors before it.
use Rattle.std.specs.Prelude.{ℕ, Bool, true, false, is_some, List, [], ◌∷◌, length, map, take, drop, Option, Some, None}
use Rattle.ss_catalog.specs.declared.refusal.Refusal.{Refusal}
use Rattle.ss_catalog.specs.declared.refusal.Refusal.TheVariants.{NoCursor}
use Rattle.ss_model.specs.State.{Stream, state, stream_named}
use Rattle.ss_model.specs.declared.types.Placed.{Placed}
use Rattle.ss_report.specs.declared.reply.Reply.{Reply}
use Rattle.ss_report.specs.declared.reply.Reply.TheVariants.{Window, Cursor, Rows, Closed}
use Rattle.ss_sessions.specs.Cursors.{Cursors, cursor_of, cursor_rows, refuses_cursor, with_cursor}
use Rattle.ss_sessions.specs.declared.order.Order.{Order}
use Rattle.ss_sessions.specs.declared.order.Order.TheVariants as orders
use Rattle.ss_program.specs.Line.{Brought, History, command_in, nothing, only_replies, refused}

-- what an order brings: the replies to it and the event that it adds, or none, the cursors after it, and whether it may take memory
pub record Ordered : Type 0 where
  pub brought : Brought
  pub cursors : Cursors
  pub wants_memory : Bool

-- an order that leaves the cursors as they are: only an event takes memory
abbrev pub leaves_cursors : Cursors → Brought → Ordered
leaves_cursors cursors brought = record { brought = brought; cursors = cursors; wants_memory = is_some brought.event }

-- a cursor is opened over a stream: the reply says how many rows it has; nothing of a stream that doesn't stand
abbrev pub opens_cursor : Cursors → ℕ → Option Stream → Ordered
opens_cursor cursors session None = leaves_cursors cursors nothing
opens_cursor cursors session (Some s) = record {
  brought = only_replies (Cursor (length s.windows) ∷ []);
  cursors = with_cursor cursors session (Some (cursor_rows s));
  wants_memory = true;
}

-- unless that is refused
abbrev pub unless_unopened : Option Refusal → Cursors → Ordered → Ordered
unless_unopened None cursors ordered = ordered
unless_unopened (Some refusal) cursors ordered = leaves_cursors cursors (refused refusal)

-- what opening a cursor brings
abbrev pub open_brings : History → Cursors → ℕ → List ℕ → Ordered
open_brings history cursors session name =
    unless_unopened (refuses_cursor (state history) name (cursor_of cursors session)) cursors (opens_cursor cursors session (stream_named name (state history)))

-- the rows of a cursor, as those of `windows`
abbrev pub placed_rows : List Placed → List Reply
placed_rows rows = map (λ placed. Window placed) rows

-- at most so many rows of a cursor are shown: it goes on with the others
abbrev pub showing : Cursors → ℕ → ℕ → Option (List Placed) → Ordered
showing cursors session count None = leaves_cursors cursors (refused NoCursor)
showing cursors session count (Some rows) = record {
  brought = only_replies (Rows (length (take count rows)) ∷ placed_rows (take count rows));
  cursors = with_cursor cursors session (Some (drop count rows));
  wants_memory = false;
}

-- what showing the next rows of a cursor brings
abbrev pub next_brings : Cursors → ℕ → ℕ → Ordered
next_brings cursors session count = showing cursors session count (cursor_of cursors session)

-- a cursor is closed
abbrev pub closes_cursor : Cursors → ℕ → Option (List Placed) → Ordered
closes_cursor cursors session None = leaves_cursors cursors (refused NoCursor)
closes_cursor cursors session (Some rows) = record {
  brought = only_replies (Closed ∷ []);
  cursors = with_cursor cursors session None;
  wants_memory = false;
}

-- what closing a cursor brings
abbrev pub close_brings : Cursors → ℕ → Ordered
close_brings cursors session = closes_cursor cursors session (cursor_of cursors session)

-- what an order of a session brings, where frames are said or not
abbrev pub order_in : Bool → History → Cursors → ℕ → Order → Ordered
order_in framed history cursors session (orders.Command command) = leaves_cursors cursors (command_in framed history command)
order_in framed history cursors session (orders.Open name) = open_brings history cursors session name
order_in framed history cursors session (orders.Next count) = next_brings cursors session count
order_in framed history cursors session orders.Close = close_brings cursors session

-- and where no frames are said
abbrev pub order_brings : History → Cursors → ℕ → Order → Ordered
order_brings history cursors session order = order_in false history cursors session order
