-- Which accepted events the disk holds, by how much of the report was taken.
use Rattle.std.specs.Prelude.{◌≡◌, ℕ, ◌+◌, ◌-◌, ◌≤◌, ◌++◌, nat_le, cond, List, [], ◌∷◌, take, length, Option}
use Rattle.ss_store.specs.Recover.{Stands}
use Rattle.ss_store.specs.Uses.{StandsShort}
use Rattle.ss_model.specs.History.{Happened}
use Rattle.ss_program.specs.Line.{History, the_event}
use Rattle.ss_program.specs.Report.{accepted, after_line}
use Rattle.ss_program.specs.Talk.{Talk, turn_of}
use Rattle.ss_arguments.specs.declared.mode.Sealing.{Sealing}
use Rattle.ss_arguments.specs.declared.mode.Sealing.TheVariants.{Each}
use Rattle.ss_program.specs.declared.status.Status.{Status}
use Rattle.ss_program.specs.declared.status.Status.TheVariants.{Done, OutOfMemory}

-- the image stands for the history and some first of these events
abbrev pub StandsForFirst : History → List Happened → List ℕ → Type 0
StandsForFirst history events image = (j : ℕ) × (j ≤ length events) × Stands (history ++ take j events) image

-- and is no longer than these allow
abbrev pub StandsShortForFirst : Option ℕ → History → List Happened → List ℕ → Type 0
StandsShortForFirst used history events image = (j : ℕ) × (j ≤ length events) × StandsShort used (history ++ take j events) image

-- how many events are accepted of these lines whose replies are whole within so many bytes of the report
abbrev pub acks : Talk → List (List ℕ) → ℕ → ℕ
acks talk [] bytes = 0
acks talk (line ∷ ls) bytes = cond (nat_le (length (turn_of talk line).says) bytes)
    (length (the_event (turn_of talk line).event) + acks (after_line talk line) ls (bytes - length (turn_of talk line).says)) 0

-- The image stands for the history and the first accepted events, and is no longer than these allow: those whose replies are whole
-- within so many bytes of the report, and no more than were accepted of the lines that were read. Where each event is sealed by itself,
-- it is at most one more. Done, it holds all of them; where memory ran out, no more than those.
pub record HoldsAcked (sealing : Sealing) (talk : Talk) (ls read : List (List ℕ)) (bytes : ℕ) (status : Status) (image : List ℕ) : Type 0 where
  pub j : ℕ
  pub stands : StandsShort talk.used (talk.history ++ take j (accepted talk ls)) image
  pub few : j ≤ length (accepted talk ls)
  pub acked : acks talk ls bytes ≤ j
  pub within : j ≤ length (accepted talk read)
  pub at_most : sealing ≡ Each → j ≤ acks talk ls bytes + 1
  pub all : status ≡ Done → j ≡ length (accepted talk ls)
  pub starved : status ≡ OutOfMemory → j ≡ acks talk ls bytes
