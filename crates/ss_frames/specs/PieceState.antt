-- What a piece reader keeps of a piece.
use Rattle.std.specs.Prelude.{◌≡◌, ℕ, List, [], ◌∷◌, ◌++◌, Bool, true, false, if◌then◌else◌}
use Rattle.ss_frames.specs.Pieces.{unended_piece}

-- a reader: the bytes of the piece that it is at, and whether that piece has ended
pub record PieceState : Type 0 where
  pub bytes : List ℕ
  pub ended : Bool

-- the bytes of the piece that is under way: none yet, where the last one has ended
abbrev pub piece_under_way : PieceState → List ℕ
piece_under_way s = if s.ended then [] else s.bytes

-- a reader that has taken this input: it keeps the bytes after the last whole piece
abbrev pub HasReadPieces : List ℕ → PieceState → Type 0
HasReadPieces input s = piece_under_way s ≡ unended_piece input

-- what a reader answers where the pieces grew from the first list to the second: nothing where they did not, and otherwise that
-- one more piece ended, which it has
abbrev pub TellsPiece : List (List ℕ) → List (List ℕ) → Bool → PieceState → Type 0
TellsPiece before after false s = after ≡ before
TellsPiece before after true s = after ≡ before ++ s.bytes ∷ []
