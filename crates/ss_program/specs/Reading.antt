-- What a reader keeps of the step that it is at.
use Rattle.std.specs.Prelude.{◌≡◌, ℕ, List, [], ◌∷◌, ◌++◌, Bool, true, false, if◌then◌else◌, Option, Some, None}
use Rattle.ss_arguments.specs.declared.mode.Form.{Form}
use Rattle.ss_arguments.specs.declared.mode.Sealing.{Sealing}
use Rattle.ss_arguments.specs.declared.mode.Sealing.TheVariants.{Each, Shared}
use Rattle.ss_command.specs.LineState.{Kept}
use Rattle.ss_command.specs.declared.line_reader.Ended.{Ended}
use Rattle.ss_program.specs.Steps.{kept_so_far, kept_step}
use Rattle.ss_program.specs.declared.buffer.TheConstants.{MOST_READ, MOST_READ_SHARED}
use Rattle.ss_program.specs.declared.step_reader.Cut.{Cut}
use Rattle.ss_program.specs.declared.step_reader.Cut.TheVariants as cuts

-- a reader: the form of its input, the step that it is at, as it is kept, and whether that step has ended
pub record StepState : Type 0 where
  pub form : Form
  pub step : Kept
  pub ended : Bool

-- how many bytes a read of the input asks for at the most. What comes in one read shares its seals where events do
abbrev pub most_read : Sealing → ℕ
most_read Each = MOST_READ
most_read Shared = MOST_READ_SHARED

-- whether it cuts pieces
abbrev pub cuts_by : Cut → Bool
cuts_by (cuts.Lines lines) = false
cuts_by (cuts.Pieces pieces) = true

-- the state by what cuts
abbrev pub step_state : Form → Cut → StepState
step_state form (cuts.Lines lines) = record { form = form; step = lines.line; ended = lines.ended }
step_state form (cuts.Pieces pieces) = record { form = form; step = Some pieces.bytes; ended = pieces.ended }

-- what is kept of the step that is under way: nothing yet, where the last one has ended
abbrev pub step_under_way : StepState → Kept
step_under_way s = if s.ended then Some [] else s.step

-- a reader that has taken this input: it keeps what stands behind the last step
abbrev pub HasReadSteps : List ℕ → StepState → Type 0
HasReadSteps input s = step_under_way s ≡ kept_so_far s.form input

-- what a reader answers where the steps grew from the first list to the second: nothing where they did not, and otherwise that one
-- more step ended, which it has
abbrev pub TellsStep : List (List ℕ) → List (List ℕ) → Option Ended → StepState → Type 0
TellsStep before after None s = after ≡ before
TellsStep before after (Some ended) s = (step : List ℕ) × (after ≡ before ++ step ∷ []) × (s.step ≡ kept_step s.form step)
