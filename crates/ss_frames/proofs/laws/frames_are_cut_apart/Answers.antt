use Rattle.ss_frames.proofs.PieceLemmas.{pieces-frames}
use Rattle.ss_frames.proofs.laws.frames_are_cut_apart.Goals as goal

pub returns : goal.returns
returns c = pieces-frames
