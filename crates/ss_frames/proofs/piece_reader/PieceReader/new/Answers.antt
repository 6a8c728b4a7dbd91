use Rattle.ss_frames.specs.Pieces.{unended_piece}
use Rattle.ss_frames.proofs.piece_reader.PieceReader.new.Goals as goal

pub returns-clause-taken : goal.returns-clause-taken
unfolding unended_piece
returns-clause-taken c = c.new.ensures
