use Rattle.ss_frames.proofs.FrameLemmas.{SpellsFrame-frame_in, frame_in-SpellsFrame}
use Rattle.ss_frames.proofs.laws.decoded_is_what_is_spelled.Goals as goal

pub returns : goal.returns
returns c bytes f = (SpellsFrame-frame_in bytes f, frame_in-SpellsFrame bytes f)
