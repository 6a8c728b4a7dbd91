-- What a line reader keeps of a line.
use Rattle.std.specs.Prelude.{◌≡◌, ℕ, List, [], ◌∷◌, ◌++◌, length, Bool, nat_le, if◌then◌else◌, Option, Some, None}
use Rattle.ss_command.specs.Lines.{unended, without_return}
use Rattle.ss_command.specs.declared.TheConstants.{LONGEST_LINE}
use Rattle.ss_command.specs.declared.line_reader.Ended.{Ended}
use Rattle.ss_command.specs.declared.line_reader.TheConstants.{MOST_BYTES_KEPT}

-- a line as it is kept: its bytes, or nothing of a line that has too many
abbrev pub Kept : Type 0
Kept = Option (List ℕ)

-- a line under way: its bytes, with room for a carriage return
abbrev pub kept : List ℕ → Kept
kept bytes = if nat_le (length bytes) MOST_BYTES_KEPT then Some bytes else None

-- a line under way with more bytes at its end
abbrev pub extended : Kept → List ℕ → Kept
extended None more = None
extended (Some bytes) more = kept (bytes ++ more)

-- a line, or nothing of one that is too long
abbrev pub unless_long : List ℕ → Kept
unless_long line = if nat_le (length line) LONGEST_LINE then Some line else None

-- a line that has ended: without its carriage return
abbrev pub ended_line : Kept → Kept
ended_line None = None
ended_line (Some bytes) = unless_long (without_return bytes)

-- a reader: the line that it is at, and whether that line has ended
pub record ReaderState : Type 0 where
  pub line : Option (List ℕ)
  pub ended : Bool

-- what is kept of the line that is under way: nothing yet, where the last one has ended
abbrev pub under_way : ReaderState → Kept
under_way s = if s.ended then Some [] else s.line

-- a reader that has taken this input: it keeps what stands after the last line end
abbrev pub HasRead : List ℕ → ReaderState → Type 0
HasRead input s = under_way s ≡ kept (unended input)

-- what a reader answers where the lines grew from the first list to the second: nothing where they did not, and otherwise
-- that one more line ended, which it has
abbrev pub TellsLine : List (List ℕ) → List (List ℕ) → Option Ended → ReaderState → Type 0
TellsLine before after None s = after ≡ before
TellsLine before after (Some ended) s = (line : List ℕ) × (after ≡ before ++ line ∷ []) × (s.line ≡ unless_long line)
