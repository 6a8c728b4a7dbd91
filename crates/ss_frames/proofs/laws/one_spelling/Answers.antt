use Rattle.ss_frames.proofs.FrameLemmas.{same-frame_spelled}
use Rattle.ss_frames.proofs.laws.one_spelling.Goals as goal

pub returns : goal.returns
returns c = same-frame_spelled
