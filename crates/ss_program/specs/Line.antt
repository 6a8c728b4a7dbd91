-- What one line brings: the one place that says what a line does to the history before it.
use Rattle.std.specs.Prelude.{ℕ, ◌<◌, Bool, true, false, List, [], ◌∷◌, ◌++◌, length, map, flat_map, Option, Some, None, IfSome, Result, Ok, Err}
use Rattle.ss_catalog.specs.Events.{event_name}
use Rattle.ss_catalog.specs.Series.{row_count, row_query, row_start, rows_of}
use Rattle.ss_catalog.specs.declared.event.Event.{Event}
use Rattle.ss_catalog.specs.declared.refusal.Refusal.{Refusal}
use Rattle.ss_catalog.specs.declared.refusal.Refusal.TheVariants.{Frame, Line}
use Rattle.ss_catalog.specs.declared.series.Series.{Series}
use Rattle.ss_certify.specs.Called.{evidence_in}
use Rattle.ss_certify.specs.Told.{told}
use Rattle.ss_certify.specs.declared.evidence.Evidence.{Evidence}
use Rattle.ss_command.specs.Grammar.{meaning}
use Rattle.ss_base.specs.declared.limits.TheConstants.{MOST_SESSIONS}
use Rattle.ss_command.specs.declared.command.Command.{Command}
use Rattle.ss_command.specs.declared.command.Command.TheVariants.{Do, Ask, Certify, Series as AskRows, Last, Values, Windows, List as ListAll}
use Rattle.ss_frames.specs.Frame.{FrameState}
use Rattle.ss_landmarks.specs.Landmark.{LandmarkValue}
use Rattle.ss_landmarks.specs.ValuesIn.{values_between}
use Rattle.ss_model.specs.History.{Happened, added}
use Rattle.ss_model.specs.Answers.{outcome_of, refuses_query}
use Rattle.ss_model.specs.Newest.{newest_in, refuses_values}
use Rattle.ss_model.specs.Refusals.{refuses, refuses_reading}
use Rattle.ss_model.specs.Series.{refuses_series}
use Rattle.ss_model.specs.Shown.{placed_of, row_of}
use Rattle.ss_model.specs.State.{Stream, state, stream_named}
use Rattle.ss_model.specs.Steps.{ack_of}
use Rattle.ss_model.specs.declared.newest.Newest.{Newest}
use Rattle.ss_model.specs.declared.outcome.Outcome.{Outcome}
use Rattle.ss_replica.specs.Offers.{due_in}
use Rattle.ss_replica.specs.Own.{event_frame}
use Rattle.ss_replica.specs.declared.judging.Due.{Due}
use Rattle.ss_replica.specs.declared.judging.Due.TheVariants.{Next, Old, Gap}
use Rattle.ss_report.specs.Text.{reply_line, said_line}
use Rattle.ss_report.specs.declared.reply.Reply.{Reply}
use Rattle.ss_report.specs.declared.reply.Reply.TheVariants.{Done, Answered, Refused, SeriesHead, Row, WindowsHead, Window, ListHead, Stream as StreamRow}
use Rattle.ss_report.specs.declared.reply.Reply.TheVariants.{Last as LastLine, ValuesHead, Value as ValueRow, Framed, Old as OldFrame, Gap as GapBehind}

-- a history: the events that were accepted, oldest first
abbrev pub History : Type 0
History = List Happened

-- what a line brings: the replies to it, in order, and the event that it adds, or none
pub record Brought : Type 0 where
  pub replies : List Reply
  pub event : Option Event

-- a line that is no command: no reply, and no event
abbrev pub nothing : Brought
nothing = record { replies = []; event = None }

-- a command that only reads
abbrev pub only_replies : List Reply → Brought
only_replies replies = record { replies = replies; event = None }

-- a line that is refused
abbrev pub refused : Refusal → Brought
refused refusal = only_replies (Refused refusal ∷ [])

-- what is brought, unless there is a refusal
abbrev pub unless_refused : Option Refusal → Brought → Brought
unless_refused None brought = brought
unless_refused (Some refusal) brought = refused refusal

-- the event that a command asks for, if it asks for one
abbrev pub event_asked : Command → Option Event
event_asked (Do event) = Some event
event_asked (Ask query) = None
event_asked (Certify query end) = None
event_asked (AskRows series) = None
event_asked (Last name) = None
event_asked (Values name from to) = None
event_asked (Windows name) = None
event_asked ListAll = None

-- the frame of an event that comes after a history, where the event isn't refused
abbrev pub accepted_frame : Option Refusal → History → Event → Option FrameState
accepted_frame (Some refusal) history event = None
accepted_frame None history event = event_frame history event

-- the reply that has the frame of an accepted event
abbrev pub frame_replies : Option FrameState → List Reply
frame_replies None = []
frame_replies (Some frame) = Framed frame ∷ []

-- the same, where frames are said
abbrev pub framed_replies : Bool → History → Event → List Reply
framed_replies false history event = []
framed_replies true history event = frame_replies (event_frame history event)

-- an event that is accepted: the reply says what its stream has then, and where frames are said its frame comes behind
abbrev pub accepted_in : Bool → History → Event → Brought
accepted_in framed history event = record {
  replies = Done (ack_of (event_name event) (state (history ++ added event ∷ []))) ∷ framed_replies framed history event;
  event = Some event;
}

-- the answer to a query; nothing of a stream that doesn't stand
abbrev pub answer_replies : Option Outcome → List Reply
answer_replies None = []
answer_replies (Some outcome) = Answered outcome ∷ []

-- a row of a series: the answer to its query, with the time at which it begins; nothing of a stream that doesn't stand
abbrev pub row_shown : ℕ → Option Outcome → List Reply
row_shown at None = []
row_shown at (Some outcome) = Row at outcome ∷ []

-- the rows of a series, in order
abbrev pub series_rows : List Stream → Series → List Reply
series_rows streams series = flat_map (λ row. row_shown (row_start series row) (outcome_of streams (row_query series row))) (rows_of series)

-- the lines of evidence; nothing of a stream that doesn't stand
abbrev pub certified : Option Evidence → List Reply
certified None = []
certified (Some w) = told w

-- the rows of a stream's windows, oldest first
abbrev pub window_rows : Stream → List Reply
window_rows s = map (λ w. Window (placed_of w)) s.windows

-- a stream's windows, with their head; nothing of one that doesn't stand
abbrev pub windows_shown : Option Stream → List Reply
windows_shown None = []
windows_shown (Some s) = WindowsHead (length s.windows) ∷ window_rows s

-- what is told of the newest value; nothing of a stream that doesn't stand
abbrev pub newest_replies : Option Newest → List Reply
newest_replies None = []
newest_replies (Some told) = LastLine told ∷ []

-- the rows of values of landmarks, oldest first
abbrev pub value_rows : List LandmarkValue → List Reply
value_rows values = map (λ (value : LandmarkValue). ValueRow value.t value.v) values

-- a stream's values of landmarks with times in from..=to, with their head; nothing of one that doesn't stand
abbrev pub values_shown : ℕ → ℕ → Option Stream → List Reply
values_shown from to None = []
values_shown from to (Some s) =
    let values = values_between s.landmarks from to in ValuesHead (length values) ∷ value_rows values

-- the rows of all streams, in order of creation
abbrev pub stream_rows : List Stream → List Reply
stream_rows streams = map (λ s. StreamRow (row_of s)) streams

-- what a command brings, where frames are said or not
abbrev pub command_in : Bool → History → Command → Brought
command_in framed history (Do event) = unless_refused (refuses (state history) event) (accepted_in framed history event)
command_in framed history (Ask query) =
    unless_refused (refuses_query (state history) query) (only_replies (answer_replies (outcome_of (state history) query)))
command_in framed history (Certify query end) =
    unless_refused (refuses_query (state history) query) (only_replies (certified (evidence_in (state history) query end)))
command_in framed history (AskRows series) =
    unless_refused (refuses_series (state history) series) (only_replies (SeriesHead series.kind (row_count series) ∷ series_rows (state history) series))
command_in framed history (Windows name) =
    unless_refused (refuses_reading (state history) name) (only_replies (windows_shown (stream_named name (state history))))
command_in framed history (Last name) =
    unless_refused (refuses_reading (state history) name) (only_replies (newest_replies (newest_in (state history) name)))
command_in framed history (Values name from to) =
    unless_refused (refuses_values (state history) name from to)
    (only_replies (values_shown from to (stream_named name (state history))))
command_in framed history ListAll = only_replies (ListHead (length (state history)) ∷ stream_rows (state history))

-- and where they aren't
abbrev pub command_brings : History → Command → Brought
command_brings history command = command_in false history command

-- what a line brings that means this
abbrev pub meaning_in : Bool → History → Result (Option Command) Refusal → Brought
meaning_in framed history (Err refusal) = refused refusal
meaning_in framed history (Ok None) = nothing
meaning_in framed history (Ok (Some command)) = command_in framed history command

-- what a line brings as it is kept: one that is too long isn't kept
abbrev pub kept_in : Bool → History → Option (List ℕ) → Brought
kept_in framed history None = refused Line
kept_in framed history (Some line) = meaning_in framed history (meaning line)

-- what a line brings after a history
abbrev pub brings_in : Bool → History → List ℕ → Brought
brings_in framed history line = meaning_in framed history (meaning line)

-- the same of lines to which no frames are said
abbrev pub meaning_brings : History → Result (Option Command) Refusal → Brought
meaning_brings history meant = meaning_in false history meant

abbrev pub kept_brings : History → Option (List ℕ) → Brought
kept_brings history line = kept_in false history line

abbrev pub brings : History → List ℕ → Brought
brings history line = brings_in false history line

-- What a frame brings: the refusal of its event or the event, where it is the next of its stream. One that the stream has is old, and one
-- behind a gap says which is the last that the stream has.
abbrev pub due_brings : History → FrameState → Due → Brought
due_brings history frame Next = command_brings history (Do frame.event)
due_brings history frame Old = only_replies (OldFrame ∷ [])
due_brings history frame (Gap last) = only_replies (GapBehind last ∷ [])

abbrev pub frame_brings : History → Option FrameState → Brought
frame_brings history None = refused Frame
frame_brings history (Some frame) = due_brings history frame (due_in history frame)

-- who a reply is said to: one of the eight sessions, or none
abbrev pub IsSpeaker : Option ℕ → Type 0
IsSpeaker speaker = IfSome speaker (λ session. session < MOST_SESSIONS)

-- the text of what a line brings, as it is said to a session, or to none
abbrev pub text_said : Option ℕ → Brought → List ℕ
text_said speaker brought = flat_map (said_line speaker) brought.replies

-- the text of what a line brings
abbrev pub text_brought : Brought → List ℕ
text_brought brought = flat_map reply_line brought.replies

-- the text of the replies to a line
abbrev pub line_text : History → List ℕ → List ℕ
line_text history line = text_brought (brings history line)

-- an event by itself, as it is added, where there is one
abbrev pub the_event : Option Event → List Happened
the_event None = []
the_event (Some event) = added event ∷ []

-- the history after what a line brings
abbrev pub history_after : History → Brought → History
history_after history brought = history ++ the_event brought.event
