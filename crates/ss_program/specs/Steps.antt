-- The steps of an input, by its form: its lines, or its pieces of 64 bytes.
use Rattle.std.specs.Prelude.{ℕ, List, Bool, true, false, if◌then◌else◌, Some}
use Rattle.ss_arguments.specs.declared.mode.Form.{Form}
use Rattle.ss_arguments.specs.declared.mode.Form.TheVariants.{Lines, Sessions, Frames, Follow}
use Rattle.ss_command.specs.Lines.{lines, lines_so_far, unended}
use Rattle.ss_command.specs.LineState.{Kept, kept, unless_long}
use Rattle.ss_frames.specs.Pieces.{pieces, pieces_so_far, unended_piece}

-- whether an input of this form is cut into pieces
abbrev pub is_in_pieces : Form → Bool
is_in_pieces (Lines framed) = false
is_in_pieces (Sessions framed) = false
is_in_pieces Frames = false
is_in_pieces Follow = true

-- all steps of an input
abbrev pub steps : Form → List ℕ → List (List ℕ)
steps form input = if is_in_pieces form then pieces input else lines input

-- those that have ended, whatever comes
abbrev pub steps_so_far : Form → List ℕ → List (List ℕ)
steps_so_far form input = if is_in_pieces form then pieces_so_far input else lines_so_far input

-- what is kept of the step that is under way behind these
abbrev pub kept_so_far : Form → List ℕ → Kept
kept_so_far form input = if is_in_pieces form then Some (unended_piece input) else kept (unended input)

-- what is kept of a step that has ended: a line unless it is too long, and a piece
abbrev pub kept_step : Form → List ℕ → Kept
kept_step form step = if is_in_pieces form then Some step else unless_long step
