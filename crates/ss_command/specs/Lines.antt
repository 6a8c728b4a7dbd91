-- The lines of an input.
use Rattle.std.specs.Prelude.{ℕ, ◌-◌, List, [], ◌∷◌, ◌++◌, Bool, ◌==◌, map, length, take, slice_index, if◌then◌else◌}
use Rattle.std.specs.List.{slice_split}
use Rattle.ss_command.specs.declared.TheConstants.{LINE_END, CARRIAGE_RETURN}

-- a byte that ends a line
abbrev pub is_line_end : ℕ → Bool
is_line_end b = b == LINE_END

-- all lists but the last
abbrev pub all_but_last : List (List ℕ) → List (List ℕ)
all_but_last [] = []
all_but_last (l ∷ []) = []
all_but_last (l ∷ m ∷ ls) = l ∷ all_but_last (m ∷ ls)

-- the last list
abbrev pub last_of : List (List ℕ) → List ℕ
last_of [] = []
last_of (l ∷ []) = l
last_of (l ∷ m ∷ ls) = last_of (m ∷ ls)

-- a list by itself, unless it is empty
abbrev pub unless_empty : List ℕ → List (List ℕ)
unless_empty [] = []
unless_empty (b ∷ bs) = (b ∷ bs) ∷ []

-- what stands before each line end of an input, from the line end before it on
unfoldable pub ended_lines : List ℕ → List (List ℕ)
ended_lines input = all_but_last (slice_split is_line_end input)

-- what stands after the last line end
unfoldable pub unended : List ℕ → List ℕ
unended input = last_of (slice_split is_line_end input)

-- a line without one carriage return at its end
abbrev pub without_return : List ℕ → List ℕ
without_return line = if slice_index line (length line - 1) == CARRIAGE_RETURN then take (length line - 1) line else line

-- the lines of an input that a line end ends
abbrev pub lines_so_far : List ℕ → List (List ℕ)
lines_so_far input = map without_return (ended_lines input)

-- The lines of an input. A line ends at a line end or at the end of the input; a line end at the very end begins no
-- further line. One carriage return at the end of a line is dropped.
abbrev pub lines : List ℕ → List (List ℕ)
lines input = lines_so_far input ++ map without_return (unless_empty (unended input))
