-- What is counted of a session over a generated file.
use Rattle.std.specs.Prelude.{◌≡◌, ℕ, List, length, count_by, IfOk, OnErr, Option, Result, ⊤}
use Rattle.ss_command.specs.declared.command.Command.{Command}
use Rattle.ss_command.specs.declared.command.Command.TheVariants as commands
use Rattle.ss_outside.specs.Crash.{LeavesOnly}
use Rattle.ss_outside.specs.Disk.{NothingPending, Told}
use Rattle.ss_report.specs.declared.reply.Reply.{Reply}
use Rattle.ss_store.specs.Uses.{StandsShort}
use Rattle.ss_program.specs.Generated.{generated_lines, is_done, is_refused, last_six}
use Rattle.ss_program.specs.Line.{History}
use Rattle.ss_program.specs.Progress.{StandsWithin}
use Rattle.ss_program.specs.Report.{plain_after, replies}
use Rattle.ss_program.specs.Talk.{plain_over}
use Rattle.ss_program.specs.declared.generate.Tally.{Tally}
use Rattle.ss_program.specs.declared.status.Status.{Status}

-- a command to which exactly one reply comes
abbrev pub IsSingle : Command → Type 0
IsSingle (commands.Do event) = ⊤
IsSingle (commands.Ask query) = ⊤
IsSingle (commands.Certify query end) = ⊥
IsSingle (commands.Series series) = ⊥
IsSingle (commands.Last name) = ⊥
IsSingle (commands.Values name from to) = ⊥
IsSingle (commands.Windows name) = ⊥
IsSingle commands.List = ⊥

-- the tally is that of so many lines to which these replies came
pub record Tallies (count : ℕ) (all : List Reply) (tally : Tally) : Type 0 where
  pub lines : tally.lines ≡ count
  pub done : tally.done ≡ count_by is_done all
  pub refused : tally.refused ≡ count_by is_refused all
  pub last : tally.last.items ≡ last_six all

-- From one moment on to another these lines were answered, and their replies counted: the disk stands for the history after
-- them, with nothing pending, and a crash left only images of some first lines.
pub record HasRun (used : Option ℕ) (history : History) (ls : List (List ℕ)) (old new : Told) (tally : Tally) : Type 0 where
  pub tallied : Tallies (length ls) (replies history ls) tally
  pub stands : StandsShort used (plain_after history ls) new.content
  pub durable : NothingPending new
  pub any_moment : LeavesOnly old new (StandsWithin (plain_over used history) ls)

-- All commands of the file were done, and the replies to them counted, or the run stopped at one of them.
pub record RunsAll (seed count : ℕ) (result : Result Tally Status) (old new : Told) : Type 0 where
  pub ok : IfOk result (λ tally. NothingPending old → (used : Option ℕ) (history : History) →
      StandsShort used history old.content → HasRun used history (generated_lines seed count) old new tally)
  pub stops : OnErr result (NothingPending old → (used : Option ℕ) (history : History) → StandsShort used history old.content →
      LeavesOnly old new (StandsWithin (plain_over used history) (generated_lines seed count)))
