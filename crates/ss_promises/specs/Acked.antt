-- Which accepted events are acknowledged by the `ok` that the sink got, whatever more is said to their lines.
use Rattle.std.specs.Prelude.{◌≡◌, ℕ, ◌+◌, ◌-◌, ◌≤◌, ◌++◌, ◌==◌, nat_le, cond, if◌then◌else◌, List, [], ◌∷◌, take, length, Option, Some}
use Rattle.ss_arguments.specs.declared.mode.Form.{Form}
use Rattle.ss_arguments.specs.declared.mode.Form.TheVariants.{Lines, Sessions, Frames, Follow}
use Rattle.ss_arguments.specs.declared.mode.Sealing.{Sealing}
use Rattle.ss_arguments.specs.declared.mode.Sealing.TheVariants.{Each}
use Rattle.ss_program.specs.Line.{the_event}
use Rattle.ss_program.specs.Outcome.{steps_within}
use Rattle.ss_program.specs.Report.{accepted, after_line}
use Rattle.ss_program.specs.Steps.{steps}
use Rattle.ss_program.specs.Talk.{Talk, turn_of}
use Rattle.ss_program.specs.declared.status.Status.{Status}
use Rattle.ss_program.specs.declared.status.Status.TheVariants.{Done, OutOfMemory}
use Rattle.ss_store.specs.Uses.{StandsShort}

-- the first line of a text, with its line end
abbrev pub first_line : List ℕ → List ℕ
first_line [] = []
first_line (byte ∷ bytes) = if byte == 10 then byte ∷ [] else byte ∷ first_line bytes

-- what acknowledges the event of a line, of what is said to it: the `ok` comes first, and where frames are written the frame is all
abbrev pub ok_of : Form → List ℕ → List ℕ
ok_of (Lines framed) says = first_line says
ok_of (Sessions framed) says = first_line says
ok_of Frames says = says
ok_of Follow says = first_line says

-- how many events are accepted of these lines whose `ok` is whole within so many bytes of the report
abbrev pub oks : Talk → List (List ℕ) → ℕ → ℕ
oks talk [] bytes = 0
oks talk (line ∷ ls) bytes = cond (nat_le (length (ok_of talk.form (turn_of talk line).says)) bytes)
    (length (the_event (turn_of talk line).event) + oks (after_line talk line) ls (bytes - length (turn_of talk line).says)) 0

-- The image stands for the history and the first accepted events: all whose `ok` is whole within so many bytes of the report, and no more
-- than were accepted of the lines that were read. Where each event is sealed by itself, it is at most one more. Done, it holds all of them;
-- where memory ran out, no more than those.
pub record HoldsOks (sealing : Sealing) (talk : Talk) (input : List ℕ) (left : Option (List ℕ)) (bytes : ℕ) (status : Status)
    (image : List ℕ) : Type 0 where
  pub j : ℕ
  pub stands : StandsShort talk.used (talk.history ++ take j (accepted talk (steps talk.form input))) image
  pub few : j ≤ length (accepted talk (steps talk.form input))
  pub acked : oks talk (steps talk.form input) bytes ≤ j
  pub at_most : sealing ≡ Each → j ≤ oks talk (steps talk.form input) bytes + 1
  pub all : status ≡ Done → j ≡ length (accepted talk (steps talk.form input))
  pub starved : status ≡ OutOfMemory → j ≡ oks talk (steps talk.form input) bytes
  pub read : List ℕ
  pub others : List ℕ
  pub are : read ++ others ≡ input
  pub rest : left ≡ Some others
  pub within : j ≤ length (accepted talk (steps_within talk.form read others))
