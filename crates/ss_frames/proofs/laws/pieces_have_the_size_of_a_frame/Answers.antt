use Rattle.ss_frames.proofs.PieceLemmas.{pieces_so_far-sizes, unended_piece-short}
use Rattle.ss_frames.proofs.laws.pieces_have_the_size_of_a_frame.Goals as goal

pub returns-clause-whole : goal.returns-clause-whole
returns-clause-whole c = pieces_so_far-sizes

pub returns-clause-last : goal.returns-clause-last
returns-clause-last c = unended_piece-short
