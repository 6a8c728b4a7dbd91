use Rattle.std.proofs.Common.{◌∙◌, None, ap, sym}
use Rattle.ss_frames.specs.Frame.{frame_in}
use Rattle.ss_frames.proofs.FrameLemmas.{frame_in-length, none-frame_in}
use Rattle.ss_frames.proofs.decoding.decode_piece.Goals as goal

pub returns-in-Ok-clause-none : goal.returns-in-Ok-clause-none
returns-in-Ok-clause-none c = none-frame_in c.decode_frame.result c.args.piece.now (c.decode_frame.ensures.exact ∙ ap frame_in c.in-Ok.ensures.1.same)

pub returns-in-Err-clause-none : goal.returns-in-Err-clause-none
returns-in-Err-clause-none c = none-frame_in None c.args.piece.now (sym (frame_in-length c.args.piece.now c.in-Err.ensures.1))

pub returns-in-Err-clause-exact : goal.returns-in-Err-clause-exact
returns-in-Err-clause-exact c = sym (frame_in-length c.args.piece.now c.in-Err.ensures.1)
