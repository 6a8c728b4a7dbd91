-- What is sent to a sink.
use Rattle.std.specs.Prelude.{◌≡◌, ℕ, ◌<◌, ◌++◌, List, take, length, Option, option_map, Result, Ok, Err}
use Rattle.ss_outside.specs.Verdict.{Counted, Rose, verdict}
use Rattle.ss_outside.specs.declared.source.Failed.{Failed}
use Rattle.ss_program.specs.declared.status.Status.{Status}
use Rattle.ss_program.specs.declared.status.Status.TheVariants.{DiskFault, SinkFault, OutOfMemory, RecordChanged}

-- what a sink holds with a text at its end, where it tells what it holds
abbrev pub appended : Option (List ℕ) → List ℕ → Option (List ℕ)
appended held text = option_map (λ bytes. bytes ++ text) held

-- the text was appended, or only some bytes of its front
abbrev pub AppendsFront : Option (List ℕ) → Option (List ℕ) → List ℕ → Type 0
AppendsFront before after text = (k : ℕ) × (after ≡ appended before (take k text))

-- less than the whole text was appended
abbrev pub AppendsLess : Option (List ℕ) → Option (List ℕ) → List ℕ → Type 0
AppendsLess before after text = (k : ℕ) × (k < length text) × (after ≡ appended before (take k text))

-- what sending a text leaves: the text at the end, or at a failure less than all of it
abbrev pub Sends : {E : Type 0} → Option (List ℕ) → Option (List ℕ) → List ℕ → Result Unit E → Type 0
Sends before after text (Ok u) = after ≡ appended before text
Sends before after text (Err e) = AppendsLess before after text

-- What handing a text to a sink leaves: what is sent, and the count of faults goes by the answer.
pub record Puts (text : List ℕ) (before : Option (List ℕ)) (had : ℕ) (after : Option (List ℕ)) (has : ℕ) (result : Result Unit Failed) : Type 0 where
  pub sends : Sends before after text result
  pub counted : Counted (verdict result) had has

-- What is left in the sink of a text at which a run stops. Where the sink or the disk failed, it got less than the text. Memory runs
-- out before any of it, and only at what may take memory.
abbrev pub StopsSaying : List ℕ → Type 0 → Option (List ℕ) → Option (List ℕ) → Status → Type 0
StopsSaying text takes before after SinkFault = AppendsLess before after text
StopsSaying text takes before after DiskFault = AppendsLess before after text
StopsSaying text takes before after RecordChanged = AppendsLess before after text
StopsSaying text takes before after OutOfMemory = (after ≡ before) × takes
StopsSaying text takes before after status = ⊥

-- A line is said, whether or not the sink takes it: the sink gets a front of it, and all of it unless its count of faults rose.
pub record SaysLine (line : List ℕ) (before after : Option (List ℕ)) (faults_before faults : ℕ) : Type 0 where
  pub front : AppendsFront before after line
  pub whole : (Rose faults_before faults → ⊥) → after ≡ appended before line
