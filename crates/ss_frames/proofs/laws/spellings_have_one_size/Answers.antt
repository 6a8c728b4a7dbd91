use Rattle.ss_frames.proofs.FrameLemmas.{length-frame_spelled}
use Rattle.ss_frames.proofs.laws.spellings_have_one_size.Goals as goal

pub returns : goal.returns
returns c = length-frame_spelled
