use Rattle.ss_frames.proofs.FrameLemmas.{frame_in-length}
use Rattle.ss_frames.proofs.laws.other_lengths_spell_nothing.Goals as goal

pub returns : goal.returns
returns c = frame_in-length
