-- What answering and showing leaves.
use Rattle.std.specs.Prelude.{◌≡◌, ℕ, List, [], ◌∷◌, flat_map, map, slice_get, false, IfOk, IfErr, IfSome, OnOk, ⊤}
use Rattle.std.specs.Prelude.{Option, Some, Result, Ok, Err}
use Rattle.ss_command.specs.declared.command.Command.{Command}
use Rattle.ss_command.specs.declared.command.Command.TheVariants.{Do, Ask, Last}
use Rattle.ss_line.specs.Line.{index_of}
use Rattle.ss_line.specs.declared.entry.At.{At}
use Rattle.ss_model.specs.Shown.{placed_of}
use Rattle.ss_model.specs.State.{state, stream_numbered}
use Rattle.ss_model.specs.declared.types.Placed.{Placed}
use Rattle.ss_outside.specs.Crash.{OnlyReads}
use Rattle.ss_outside.specs.Disk.{DiskView, OfContent, Told}
use Rattle.ss_outside.specs.Step.{Step}
use Rattle.ss_outside.specs.Verdict.{Counted}
use Rattle.ss_outside.specs.declared.source.Failed.{Failed}
use Rattle.ss_report.specs.Text.{said_line}
use Rattle.ss_report.specs.declared.reply.Reply.{Reply}
use Rattle.ss_journal.specs.Kept.{IsSealed}
use Rattle.ss_records.specs.Kept.{RecordsState, shown_by}
use Rattle.ss_store.specs.Kept.{StoreIsKept, StoreState, part_numbered}
use Rattle.ss_store.specs.Recover.{Stands}
use Rattle.ss_program.specs.Devices.{Devices}
use Rattle.ss_program.specs.Line.{Brought, History, command_brings, text_said}
use Rattle.ss_program.specs.Sent.{Sends}
use Rattle.ss_program.specs.Status.{disk_verdict, ended, sink_verdict, IsShowStop}
use Rattle.ss_program.specs.declared.answer.Question.{Question}
use Rattle.ss_program.specs.declared.answer.Question.TheVariants as questions
use Rattle.ss_program.specs.declared.status.Status.{Status}
use Rattle.ss_program.specs.declared.status.Status.TheVariants.{SinkFault}

-- The store can be called: it hasn't stopped, and the disk is as it left it.
pub record IsServing (disk : DiskView) (store : StoreState) : Type 0 where
  pub runs : store.stopped ≡ false
  pub kept : OfContent disk (StoreIsKept store)

-- and nothing is staged
pub record IsOpen (disk : DiskView) (store : StoreState) : Type 0 where
  pub serves : IsServing disk store
  pub sealed : IsSealed store.records.journal

-- rows were sent, each in its turn, or less than all of them
abbrev pub SendsRows : {E : Type 0} → Option ℕ → Option (List ℕ) → Option (List ℕ) → List Reply → Result Unit E → Type 0
SendsRows speaker before after rows result = Sends before after (flat_map (said_line speaker) rows) result

-- the status of a run whose sink failed here
abbrev pub at_sink : Result Unit Failed → Result Unit Status
at_sink (Ok u) = Ok u
at_sink (Err e) = Err SinkFault

-- a command shows rows, which don't wait
abbrev pub HasRows : Command → Type 0
HasRows (Do event) = ⊥
HasRows (Ask query) = ⊥
HasRows (Last name) = ⊥
HasRows command = ⊤

-- the command by which something is asked that has one answer
abbrev pub question_command : Question → Command
question_command (questions.Query query) = Ask query
question_command (questions.Newest name) = Last name

-- A call that only reads answers a value of which this is so by the content. Content and images stay.
pub record ReadsAnswer {T : Type 0} (is_so : T → List ℕ → Type 0) (result : Result T Status) (old new : Told) : Type 0 where
  pub answer : IfOk result (λ value. is_so value old.content)
  pub reads : OnlyReads old new

-- what is brought after each history that records show has this reply alone
abbrev pub IsOneReply : RecordsState → (History → Brought) → Reply → List ℕ → Type 0
IsOneReply was brought reply content = (history : History) → Stands history (shown_by was content) → (brought history).replies ≡ reply ∷ []

-- the window at a place of the stream of a number is this
abbrev pub IsRowAt : ℕ → At → StoreState → Placed → List ℕ → Type 0
IsRowAt number at store placed content = (history : History) → Stands history content → IfSome (part_numbered number store.streams) (λ part.
    IfSome (stream_numbered number (state history)) (λ s.
    slice_get (map placed_of s.windows) (index_of part.line.entries at) ≡ Some placed))

-- the text of what a command brings
abbrev pub IsTextBrought : Option ℕ → Command → History → List ℕ → Type 0
IsTextBrought speaker command history bytes = bytes ≡ text_said speaker (command_brings history command)

-- Something of the store is shown: the text of it is sent, which may go by the history, and the disk is only read.
pub record Shows (text : History → List ℕ → Type 0) (old new : Devices) (store : StoreState) (result : Result Unit Status) : Type 0 where
  pub reads : Step (disk_verdict (ended result)) old.disk new.disk OnlyReads
  pub sends : OfContent old.disk (λ content. (history : History) → Stands history content →
      (bytes : List ℕ) → text history bytes → Sends old.held new.held bytes result)
  pub counted : Counted (sink_verdict (ended result)) old.faults new.faults
  pub opens : OnOk result (IsOpen new.disk store)
  pub status : IfErr result (IsShowStop old.disk.tells)
