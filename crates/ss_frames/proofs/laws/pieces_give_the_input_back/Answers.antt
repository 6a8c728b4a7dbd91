use Rattle.ss_frames.proofs.PieceLemmas.{joined-pieces, joined-pieces_so_far}
use Rattle.ss_frames.proofs.laws.pieces_give_the_input_back.Goals as goal

pub returns-clause-whole : goal.returns-clause-whole
returns-clause-whole c = joined-pieces_so_far

pub returns-clause-all : goal.returns-clause-all
returns-clause-all c = joined-pieces
