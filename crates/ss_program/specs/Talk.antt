-- A conversation, and what a line of it brings: the one place that says what lines do, whatever form the input has.
use Rattle.std.specs.Prelude.{ℕ, List, ◌++◌, Bool, true, false, Option, Some, None, Result, Ok, Err}
use Rattle.ss_catalog.specs.declared.event.Event.{Event}
use Rattle.ss_catalog.specs.declared.refusal.Refusal.{Refusal}
use Rattle.ss_catalog.specs.declared.refusal.Refusal.TheVariants.{Line, Syntax}
use Rattle.ss_command.specs.Grammar.{meaning}
use Rattle.ss_command.specs.LineState.{unless_long}
use Rattle.ss_command.specs.declared.command.Command.{Command}
use Rattle.ss_command.specs.declared.command.Command.TheVariants.{Do}
use Rattle.ss_frames.specs.Frame.{FrameState, frame_in, frame_spelled}
use Rattle.ss_model.specs.Refusals.{refuses}
use Rattle.ss_model.specs.State.{state}
use Rattle.ss_sessions.specs.Cursors.{Cursors, no_cursors}
use Rattle.ss_sessions.specs.Grammar.{spoken_of}
use Rattle.ss_sessions.specs.declared.order.Order.{Order}
use Rattle.ss_sessions.specs.declared.order.Spoken.{Spoken}
use Rattle.ss_sessions.specs.declared.order.Spoken.TheVariants.{Nothing, Unaddressed, To}
use Rattle.ss_program.specs.Cursor.{Ordered, leaves_cursors, order_in}
use Rattle.ss_program.specs.Line.{Brought, History, accepted_frame, brings_in, frame_brings, kept_in, nothing, refused, text_said, the_event}
use Rattle.ss_arguments.specs.declared.mode.Form.{Form}
use Rattle.ss_arguments.specs.declared.mode.Form.TheVariants.{Lines, Sessions, Frames, Follow}

-- A conversation so far: the form of its input, the events that were accepted, and the cursors. Where it is asked how long the store's file
-- gets, it says how many slots the file used before it.
pub record Talk : Type 0 where
  pub form : Form
  pub history : History
  pub cursors : Cursors
  pub used : Option ℕ

-- whether the frame of an accepted event is said behind its reply
abbrev pub is_framed : Form → Bool
is_framed (Lines framed) = framed
is_framed (Sessions framed) = framed
is_framed Frames = false
is_framed Follow = false

-- one that begins after a history: no cursor is open
abbrev pub begun_over : Option ℕ → Form → History → Talk
begun_over used form history = record { form = form; history = history; cursors = no_cursors; used = used }

abbrev pub begun : Form → History → Talk
begun form history = begun_over None form history

-- one of plain lines
abbrev pub plain_over : Option ℕ → History → Talk
plain_over used history = begun_over used (Lines false) history

abbrev pub plain_talk : History → Talk
plain_talk history = plain_over None history

-- what a line brings: the text that is said, the event that it adds, or none, the cursors after it, and whether it may want memory
pub record Turn : Type 0 where
  pub says : List ℕ
  pub event : Option Event
  pub cursors : Cursors
  pub wants_memory : Bool

-- the turn of what an order brings, which is said to a session or to none
abbrev pub turn_said : Option ℕ → Ordered → Turn
turn_said speaker ordered = record {
  says = text_said speaker ordered.brought;
  event = ordered.brought.event;
  cursors = ordered.cursors;
  wants_memory = ordered.wants_memory;
}

-- the turn of what a command brings: it leaves the cursors, and only an event wants memory
abbrev pub turn_brought : Option ℕ → Talk → Brought → Turn
turn_brought speaker talk brought = turn_said speaker (leaves_cursors talk.cursors brought)

-- a turn of which nothing is said, and that adds nothing
abbrev pub silent : Talk → Turn
silent talk = turn_brought None talk nothing

-- what is said to a session brings: nothing, a refusal, or what it orders
abbrev pub turn_to : Bool → ℕ → Talk → Result (Option Order) Refusal → Turn
turn_to framed session talk (Err refusal) = turn_brought (Some session) talk (refused refusal)
turn_to framed session talk (Ok None) = turn_brought (Some session) talk nothing
turn_to framed session talk (Ok (Some order)) = turn_said (Some session) (order_in framed talk.history talk.cursors session order)

-- what a line of sessions brings by what it says: where it is addressed to none, its refusal is said to none
abbrev pub turn_spoken : Bool → Talk → Spoken → Turn
turn_spoken framed talk Nothing = silent talk
turn_spoken framed talk Unaddressed = turn_brought None talk (refused Syntax)
turn_spoken framed talk (To session said) = turn_to framed session talk said

-- and as the line is kept: one that is too long isn't kept, and is refused
abbrev pub kept_spoken : Bool → Talk → Option (List ℕ) → Turn
kept_spoken framed talk None = turn_brought None talk (refused Line)
kept_spoken framed talk (Some line) = turn_spoken framed talk (spoken_of line)

-- an event that is accepted brings its frame, in place of replies
abbrev pub turn_framed : Talk → Event → FrameState → Turn
turn_framed talk event frame = record { says = frame_spelled frame; event = Some event; cursors = talk.cursors; wants_memory = true }

-- an event whose frame is written, if it has one: one that is refused has none, and a drop is passed over
abbrev pub writing : Talk → Event → Option FrameState → Turn
writing talk event None = silent talk
writing talk event (Some frame) = turn_framed talk event frame

abbrev pub event_turn : Talk → Event → Turn
event_turn talk event = writing talk event (accepted_frame (refuses (state talk.history) event) talk.history event)

-- what a line brings where frames are written: events alone are done
abbrev pub meant_turn : Talk → Result (Option Command) Refusal → Turn
meant_turn talk (Ok (Some (Do event))) = event_turn talk event
meant_turn talk meant = silent talk

-- and as the line is kept
abbrev pub kept_framed : Talk → Option (List ℕ) → Turn
kept_framed talk None = silent talk
kept_framed talk (Some line) = meant_turn talk (meaning line)

-- what a frame brings
abbrev pub turn_offered : Talk → List ℕ → Turn
turn_offered talk piece = turn_brought None talk (frame_brings talk.history (frame_in piece))

-- a piece is kept whole
abbrev pub kept_offered : Talk → Option (List ℕ) → Turn
kept_offered talk None = silent talk
kept_offered talk (Some piece) = turn_offered talk piece

-- what a line brings, or a piece, by the form of the input
abbrev pub turn_in : Form → Talk → List ℕ → Turn
turn_in (Lines framed) talk line = turn_brought None talk (brings_in framed talk.history line)
turn_in (Sessions framed) talk line = kept_spoken framed talk (unless_long line)
turn_in Frames talk line = meant_turn talk (meaning line)
turn_in Follow talk piece = turn_offered talk piece

-- what a line brings
abbrev pub turn_of : Talk → List ℕ → Turn
turn_of talk line = turn_in talk.form talk line

-- and as it is kept
abbrev pub kept_turn : Form → Option (List ℕ) → Talk → Turn
kept_turn (Lines framed) line talk = turn_brought None talk (kept_in framed talk.history line)
kept_turn (Sessions framed) line talk = kept_spoken framed talk line
kept_turn Frames line talk = kept_framed talk line
kept_turn Follow piece talk = kept_offered talk piece

-- a conversation after a turn
abbrev pub after_turn : Talk → Turn → Talk
after_turn talk turn = record { form = talk.form; history = talk.history ++ the_event turn.event; cursors = turn.cursors; used = talk.used }
