-- Between two lines of a session: what is true there, and what taking some lines does.
use Rattle.std.specs.Prelude.{◌≡◌, ℕ, ◌+◌, Bool, true, ◌≤◌, ◌++◌, List, ◌∷◌, [], length, Option, Some, None, Result, Err, IfOk, IfErr, OnOk}
use Rattle.std.specs.Prelude.{IsSome, IsTrue, ◌<◌, ⊤}
use Rattle.ss_catalog.specs.declared.event.Event.{Event}
use Rattle.ss_command.specs.LineState.{Kept}
use Rattle.ss_command.specs.declared.command.Command.TheVariants.{Do}
use Rattle.ss_frames.specs.Frame.{FrameState, frame_spelled}
use Rattle.ss_journal.specs.Kept.{IsSealed}
use Rattle.ss_model.specs.Refusals.{refuses}
use Rattle.ss_model.specs.State.{state}
use Rattle.ss_outside.specs.Crash.{LeavesOnly}
use Rattle.ss_outside.specs.Disk.{DiskView, NothingPending, OfContent, Told}
use Rattle.ss_records.specs.Kept.{RecordsState, shown_by}
use Rattle.ss_report.specs.declared.reply.Reply.{Reply}
use Rattle.ss_store.specs.Calls.{TurnsHistory}
use Rattle.ss_store.specs.Kept.{StoreState}
use Rattle.ss_store.specs.Recover.{Stands}
use Rattle.ss_program.specs.Answer.{IsOpen, IsServing}
use Rattle.ss_program.specs.Line.{Brought, History, accepted_frame, command_in, frame_replies, history_after}
use Rattle.ss_program.specs.Progress.{NoneWait, InputRunState, StandsAround, StandsWithin, StopsIn, HoldsTalk}
use Rattle.ss_program.specs.Reading.{StepState, step_under_way}
use Rattle.ss_program.specs.Sent.{appended}
use Rattle.ss_program.specs.Steps.{kept_so_far, steps, steps_so_far}
use Rattle.ss_program.specs.Report.{after_lines, text_of}
use Rattle.ss_program.specs.Talk.{Talk, Turn, turn_of}
use Rattle.ss_sessions.specs.Cursors.{Cursors, no_cursors}
use Rattle.ss_program.specs.declared.replies.TheConstants.{LONGEST_REPLY, MOST_WAITING_BYTES}
use Rattle.ss_arguments.specs.declared.mode.Form.{Form}
use Rattle.ss_arguments.specs.declared.mode.Sealing.{Sealing}
use Rattle.ss_arguments.specs.declared.mode.Sealing.TheVariants.{Each, Shared}
use Rattle.ss_program.specs.declared.replies.Seals.{Seals}
use Rattle.ss_program.specs.declared.replies.Seals.TheVariants as seal
use Rattle.ss_program.specs.declared.staging.Staged.{Staged}
use Rattle.ss_program.specs.declared.status.Status.{Status}
use Rattle.ss_program.specs.declared.talk.Talk.{Talk as TalkState}

-- what is owed of the text that is said, and where each event is sealed by itself to how many lines: to none between two lines, and to
-- one until its reply is sent
pub record Owed : Type 0 where
  pub text : List ℕ
  pub lines : Option ℕ

-- between two lines the replies that wait are owed, where some may wait
abbrev pub owed_by : Seals → Owed
owed_by seal.Each = record { text = []; lines = Some 0 }
owed_by (seal.Shared replies) = record { text = replies; lines = None }

abbrev pub one_line_more : Option ℕ → Option ℕ
one_line_more None = None
one_line_more (Some n) = Some (n + 1)

-- a line was done, to which this is said
abbrev pub with_text : Owed → List ℕ → Owed
with_text owed text = record { text = owed.text ++ text; lines = one_line_more owed.lines }

-- so many lines are these
abbrev pub AreOwed : Sealing → Option ℕ → List (List ℕ) → Type 0
AreOwed Each None ls = ⊥
AreOwed Each (Some n) ls = length ls ≡ n
AreOwed Shared None ls = ⊤
AreOwed Shared (Some n) ls = ⊥

-- what lines change: the cursors, the records of the store, what is owed, and what the sink holds
pub record Amid : Type 0 where
  pub cursors : Cursors
  pub records : RecordsState
  pub owed : Owed
  pub held : Option (List ℕ)

-- the same by its parts
abbrev pub amid : RecordsState → Owed → Option (List ℕ) → Cursors → Amid
amid records owed held cursors = record { cursors = cursors; records = records; owed = owed; held = held }

-- what lines change of a conversation that goes on, by what the sink holds
abbrev pub between : TalkState → Option (List ℕ) → Amid
between talk held = amid talk.store.records (owed_by talk.waiting) held talk.sessions

-- and where this is still to be said to a line
abbrev pub owing : TalkState → List ℕ → Option (List ℕ) → Amid
owing talk text held = amid talk.store.records (with_text (owed_by talk.waiting) text) held talk.sessions

-- Between two lines: what is said to some first of these lines is out, and what they did is on the disk. What is said to the rest is
-- owed. The store shows what all of them did, and the disk has what some first of them did.
pub record IsAmid (sealing : Sealing) (talk : Talk) (ls : List (List ℕ)) (before : Option (List ℕ)) (at : Amid) (disk : Told) : Type 0 where
  pub out : List (List ℕ)
  pub rest : List (List ℕ)
  pub are : ls ≡ out ++ rest
  pub said : at.held ≡ appended before (text_of talk out)
  pub owes : at.owed.text ≡ text_of (after_lines talk out) rest
  pub few : AreOwed sealing at.owed.lines rest
  pub shown : HoldsTalk (after_lines talk ls) (shown_by at.records disk.content)
  pub within : StandsWithin (after_lines talk out) rest disk.content
  pub durable : NothingPending disk
  pub cursors : at.cursors ≡ (after_lines talk ls).cursors

-- From one moment on to another a session came between two lines: a crash left only images of some first lines.
pub record GoesAmid (sealing : Sealing) (talk : Talk) (ls : List (List ℕ)) (before : Option (List ℕ)) (at : Amid) (old new : Told) : Type 0 where
  pub amid : IsAmid sealing talk ls before at new
  pub any_moment : LeavesOnly old new (StandsWithin talk ls)

-- Further lines of a conversation are taken, from between two lines on to between two lines, or the run stops among them.
pub record TakesFurther (sealing : Sealing) (talk : Talk) (ls more : List (List ℕ)) (before : Option (List ℕ)) (from to : Amid)
    (result : Result Unit Status) (old new : Told) : Type 0 where
  pub goes : OnOk result (IsAmid sealing talk ls before from old → GoesAmid sealing talk (ls ++ more) before to old new)
  pub stops : IfErr result (λ status. IsAmid sealing talk ls before from old → StopsIn sealing talk (ls ++ more) old new before to.held status)

-- no line more is taken, in any conversation
abbrev pub TakesNone : Amid → Amid → Result Unit Status → Told → Told → Type 0
TakesNone from to result old new = (sealing : Sealing) (talk : Talk) (ls : List (List ℕ)) (before : Option (List ℕ)) →
    TakesFurther sealing talk ls [] before from to result old new

-- a line is taken that has this turn
abbrev pub TakesTurn : (Talk → Turn) → Amid → Amid → Result Unit Status → Told → Told → Type 0
TakesTurn turn from to result old new =
    (sealing : Sealing) (talk : Talk) (ls : List (List ℕ)) (before : Option (List ℕ)) (line : List ℕ) →
    turn_of (after_lines talk ls) line ≡ turn (after_lines talk ls) → TakesFurther sealing talk ls (line ∷ []) before from to result old new

-- The run stops at a line, which may have any turn that wants memory after the histories that records show, and to which something is said.
abbrev pub TakesStarved : Amid → Amid → Status → Told → Told → Type 0
TakesStarved from to status old new = (turn : Talk → Turn) →
    ((here : Talk) → here.cursors ≡ from.cursors → Stands here.history (shown_by from.records old.content) →
    IsTrue (turn here).wants_memory × (0 < length (turn here).says)) → TakesTurn turn from to (Err status) old new

-- A line is taken in memory: the event that it brings, if any, comes after the history that records show, wholly or not at all, and
-- its one reply is answered.
pub record StagesBrought (brought : History → Brought) (was is : RecordsState) (result : Result Reply Status) (old new : Told) : Type 0 where
  pub turns : (history : History) →
      TurnsHistory was is history (StandsAround history (brought history)) (history_after history (brought history)) old new result
  pub reply : (history : History) → Stands history (shown_by was old.content) → IfOk result (λ reply. (brought history).replies ≡ reply ∷ [])

-- what is replied to an event that is staged: its frame behind, where it has one
abbrev pub staged_replies : Staged → List Reply
staged_replies staged = staged.reply ∷ frame_replies staged.frame

-- the bytes of a frame, or none
abbrev pub frame_bytes : Option FrameState → List ℕ
frame_bytes None = []
frame_bytes (Some frame) = frame_spelled frame

-- An event is taken in memory, where frames are said or not: it comes after the history that records show, wholly or not at all, and its
-- replies are answered. Its frame is answered where frames are said and it isn't refused.
pub record StagesFramed (framed : Bool) (event : Event) (was is : RecordsState) (result : Result Staged Status) (old new : Told) : Type 0 where
  pub turns : (history : History) → let brought = command_in framed history (Do event) in
      TurnsHistory was is history (StandsAround history brought) (history_after history brought) old new result
  pub replies : (history : History) → Stands history (shown_by was old.content) →
      IfOk result (λ staged. (command_in framed history (Do event)).replies ≡ staged_replies staged)
  pub frame : framed ≡ true → (history : History) → Stands history (shown_by was old.content) →
      IfOk result (λ staged. staged.frame ≡ accepted_frame (refuses (state history) event) history event)

-- a line brings an event, after each history that records show over the content of a disk
abbrev pub BringsEvent : (History → Brought) → RecordsState → DiskView → Type 0
BringsEvent brought was disk =
    OfContent disk (λ content. (history : History) → Stands history (shown_by was content) → IsSome (brought history).event)

-- The store can be called between two lines, and nothing is staged where each event is sealed by itself.
abbrev pub NoneStaged : Seals → StoreState → Type 0
NoneStaged seal.Each store = IsSealed store.records.journal
NoneStaged (seal.Shared replies) store = ⊤

pub record IsReadyToServe (disk : DiskView) (talk : TalkState) : Type 0 where
  pub serves : IsServing disk talk.store
  pub staged : NoneStaged talk.waiting talk.store

-- Between two reads of the input: the store can be called, nothing of it is staged, and no reply waits.
pub record IsAtRest (disk : DiskView) (session : InputRunState) : Type 0 where
  pub is_open : IsOpen disk session.store
  pub unsaid : NoneWait session.waiting

-- what is seen of a session, by its conversation and its reader
abbrev pub input_run_state : TalkState → StepState → InputRunState
input_run_state talk reader =
    record { form = reader.form; store = talk.store; line = step_under_way reader; cursors = talk.sessions; waiting = talk.waiting }

-- and before the first one also no byte of it was taken, and no cursor is open
pub record IsAtFront (disk : DiskView) (session : InputRunState) : Type 0 where
  pub rests : IsAtRest disk session
  pub line : session.line ≡ kept_so_far session.form []
  pub cursors : session.cursors ≡ no_cursors

-- one reply more can wait
abbrev pub HasRoomForReply : Seals → Type 0
HasRoomForReply seal.Each = ⊤
HasRoomForReply (seal.Shared replies) = length replies + LONGEST_REPLY ≤ MOST_WAITING_BYTES

-- what a call says between two lines of an input of this form, of which these bytes were taken
abbrev pub OfAmid : Form → Kept → Amid → Told → (Sealing → Talk → Option (List ℕ) → List ℕ → Type 0) → Type 0
OfAmid form line from disk P = (sealing : Sealing) (talk : Talk) (before : Option (List ℕ)) (input : List ℕ) → form ≡ talk.form →
    line ≡ kept_so_far talk.form input → IsAmid sealing talk (steps_so_far talk.form input) before from disk → P sealing talk before input

-- Bytes of a piece of the input are taken, by the answer so many, or the run stops among the lines that end in the piece.
pub record TakesBytes {T : Type 0} (moved : T → List ℕ) (piece : List ℕ) (form : Form) (line next : Kept) (from to : Amid) (result : Result T Status)
    (old new : Told) : Type 0 where
  pub goes : IfOk result (λ value. OfAmid form line from old (λ sealing talk before input.
      (next ≡ kept_so_far talk.form (input ++ moved value)) × GoesAmid sealing talk (steps_so_far talk.form (input ++ moved value)) before to old new))
  pub stops : IfErr result (λ status. OfAmid form line from old (λ sealing talk before input.
      StopsIn sealing talk (steps_so_far talk.form (input ++ piece)) old new before to.held status))

-- A last line that no line end ended is taken, if it has bytes, or the run stops among the lines.
pub record TakesLast (form : Form) (line : Kept) (from to : Amid) (result : Result Unit Status) (old new : Told) : Type 0 where
  pub goes : OnOk result (OfAmid form line from old (λ sealing talk before input. GoesAmid sealing talk (steps talk.form input) before to old new))
  pub stops : IfErr result (λ status. OfAmid form line from old (λ sealing talk before input.
      StopsIn sealing talk (steps talk.form input) old new before to.held status))
