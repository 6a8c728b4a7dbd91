-- A generated command file: its lines, and what is said of a session over them.
use Rattle.std.specs.Prelude.{◌≡◌, ℕ, ◌-◌, Bool, true, false, List, [], ◌∷◌, ◌++◌, codes, drop, flat_map, length, map, count_by, Option}
use Rattle.std.specs.Fmt.{decimal}
use Rattle.ss_command.specs.Printed.{printed}
use Rattle.ss_generator.specs.Commands.{commands}
use Rattle.ss_outside.specs.Crash.{LeavesOnly}
use Rattle.ss_outside.specs.Disk.{NothingPending, Told}
use Rattle.ss_report.specs.Text.{reply_line}
use Rattle.ss_report.specs.declared.reply.Reply.{Reply}
use Rattle.ss_report.specs.declared.reply.Reply.TheVariants.{Done as AckLine, Answered, Refused, SeriesHead, Row, WindowsHead, Window}
use Rattle.ss_report.specs.declared.reply.Reply.TheVariants.{ListHead, Stream, CertifyHead, Side, Last, ValuesHead, Value as MarkedValue, Cursor, Rows, Closed}
use Rattle.ss_report.specs.declared.reply.Reply.TheVariants.{CertifyMeanHead, Old, Gap, Framed}
use Rattle.ss_store.specs.Uses.{StandsShort}
use Rattle.ss_program.specs.Held.{StandsShortForFirst}
use Rattle.ss_program.specs.Line.{History}
use Rattle.ss_program.specs.Sent.{appended, AppendsFront}
use Rattle.ss_program.specs.Report.{accepted, replies}
use Rattle.ss_program.specs.Talk.{plain_talk}
use Rattle.ss_program.specs.declared.status.Status.{Status}
use Rattle.ss_program.specs.declared.status.Status.TheVariants.{Done, SinkFault}

-- the lines of the file
abbrev pub generated_lines : ℕ → ℕ → List (List ℕ)
generated_lines seed count = map printed (commands seed count)

-- whether a reply says that an event was accepted, and whether it says that a command was refused
abbrev pub is_done : Reply → Bool
is_done (AckLine ack) = true
is_done (Answered outcome) = false
is_done (Refused refusal) = false
is_done (SeriesHead kind count) = false
is_done (Row at outcome) = false
is_done (WindowsHead count) = false
is_done (Window placed) = false
is_done (ListHead count) = false
is_done (Stream row) = false
is_done (CertifyHead answer base count) = false
is_done (CertifyMeanHead answer known count) = false
is_done (Side side) = false
is_done (Last newest) = false
is_done (ValuesHead count) = false
is_done (MarkedValue at value) = false
is_done (Cursor count) = false
is_done (Rows count) = false
is_done Closed = false
is_done Old = false
is_done (Gap events) = false
is_done (Framed frame) = false

abbrev pub is_refused : Reply → Bool
is_refused (AckLine ack) = false
is_refused (Answered outcome) = false
is_refused (Refused refusal) = true
is_refused (SeriesHead kind count) = false
is_refused (Row at outcome) = false
is_refused (WindowsHead count) = false
is_refused (Window placed) = false
is_refused (ListHead count) = false
is_refused (Stream row) = false
is_refused (CertifyHead answer base count) = false
is_refused (CertifyMeanHead answer known count) = false
is_refused (Side side) = false
is_refused (Last newest) = false
is_refused (ValuesHead count) = false
is_refused (MarkedValue at value) = false
is_refused (Cursor count) = false
is_refused (Rows count) = false
is_refused Closed = false
is_refused Old = false
is_refused (Gap events) = false
is_refused (Framed frame) = false

-- a line of a word and a number
abbrev pub counted_line : List ℕ → ℕ → List ℕ
counted_line word number = word ++ 32 ∷ decimal number ++ 10 ∷ []

-- the last six of some replies: those to the queries at the end of the file
abbrev pub last_six : List Reply → List Reply
last_six all = drop (length all - 6) all

-- the first four lines of the summary
abbrev pub first_lines : ℕ → ℕ → ℕ → ℕ → ℕ → List ℕ
first_lines seed count lines done refused =
    counted_line (codes "gen" ++ 32 ∷ decimal seed) count
    ++ counted_line (codes "lines") lines
    ++ counted_line (codes "ok") done
    ++ counted_line (codes "refused") refused

-- the summary of a file of so many lines, to which these replies came
abbrev pub summary_lines : ℕ → ℕ → ℕ → List Reply → List ℕ
summary_lines seed count lines all =
    first_lines seed count lines (count_by is_done all) (count_by is_refused all) ++ flat_map reply_line (last_six all)

-- the summary of a session over the file, after a history
abbrev pub summary : History → ℕ → ℕ → List ℕ
summary history seed count =
    summary_lines seed count (length (generated_lines seed count)) (replies history (generated_lines seed count))

-- the image stands for the history and some first of the events that are accepted of the file, and is no longer than these allow
abbrev pub StandsForGenerated : Option ℕ → History → ℕ → ℕ → List ℕ → Type 0
StandsForGenerated used history seed count image = StandsShortForFirst used history (accepted (plain_talk history) (generated_lines seed count)) image

-- the image stands for the history and all of them
abbrev pub StandsForAll : Option ℕ → History → ℕ → ℕ → List ℕ → Type 0
StandsForAll used history seed count image = StandsShort used (history ++ accepted (plain_talk history) (generated_lines seed count)) image

-- What a run over the file leaves. The sink's new bytes are a front of the summary, and all of it where the run is done; there are
-- none where it stopped at a command. A crash at any moment leaves the history and some first of the accepted events, and so does
-- one after the run; where it is done, all of them.
pub record Generates (used : Option ℕ) (history : History) (seed count : ℕ) (before after : Option (List ℕ)) (old new : Told) (status : Status) : Type 0 where
  pub front : AppendsFront before after (summary history seed count)
  pub whole : status ≡ Done → after ≡ appended before (summary history seed count)
  pub silent : (status ≡ Done → ⊥) → (status ≡ SinkFault → ⊥) → after ≡ before
  pub any_moment : LeavesOnly old new (StandsForGenerated used history seed count)
  pub kept : (image : List ℕ) → new.may_leave image → StandsForGenerated used history seed count image
  pub done : status ≡ Done → StandsForAll used history seed count new.content
  pub all : status ≡ Done → (image : List ℕ) → new.may_leave image → StandsForAll used history seed count image

-- for each history for which the content stands, with nothing pending, and where it is asked how long the file gets, by how many slots it used
abbrev pub GeneratesFrom : ℕ → ℕ → Option (List ℕ) → Option (List ℕ) → Status → Told → Told → Type 0
GeneratesFrom seed count before after status old new =
    NothingPending old → (used : Option ℕ) (history : History) → StandsShort used history old.content →
    Generates used history seed count before after old new status
