-- The pieces of an input, each of the size of a frame.
use Rattle.std.specs.Prelude.{ℕ, ◌*◌, ◌/◌, List, [], ◌∷◌, ◌++◌, map, length, take, drop}
use Rattle.std.specs.List.{range_with_len}
use Rattle.ss_frames.specs.declared.frame.TheConstants.{FRAME_SIZE}

-- how many whole pieces an input has
abbrev pub whole_pieces : List ℕ → ℕ
whole_pieces input = length input / FRAME_SIZE

-- the piece after k others
abbrev pub piece_at : List ℕ → ℕ → List ℕ
piece_at input k = take FRAME_SIZE (drop (FRAME_SIZE * k) input)

-- the whole pieces of an input
unfoldable pub pieces_so_far : List ℕ → List (List ℕ)
pieces_so_far input = map (piece_at input) (range_with_len 0 (whole_pieces input))

-- the bytes after the last whole piece
unfoldable pub unended_piece : List ℕ → List ℕ
unended_piece input = drop (FRAME_SIZE * whole_pieces input) input

-- a piece by itself, unless it is empty
abbrev pub unless_empty : List ℕ → List (List ℕ)
unless_empty [] = []
unless_empty (b ∷ bs) = (b ∷ bs) ∷ []

-- the pieces of an input; the last one is shorter where the input ends within it
abbrev pub pieces : List ℕ → List (List ℕ)
pieces input = pieces_so_far input ++ unless_empty (unended_piece input)
