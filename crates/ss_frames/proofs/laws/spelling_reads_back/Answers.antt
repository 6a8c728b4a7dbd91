use Rattle.ss_frames.proofs.FrameLemmas.{frame_in-spelling}
use Rattle.ss_frames.proofs.laws.spelling_reads_back.Goals as goal

pub returns : goal.returns
returns c = frame_in-spelling
