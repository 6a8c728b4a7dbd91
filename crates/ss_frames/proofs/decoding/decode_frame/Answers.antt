use Rattle.std.proofs.Common.{◌∙◌, sym}
use Rattle.ss_frames.proofs.FrameLemmas.{frame_in-unread, none-frame_in, none-spelled}
use Rattle.ss_frames.proofs.decoding.decode_frame.Goals as goal

pub returns-in_err-frame-clause-none : goal.returns-in_err-frame-clause-none
returns-in_err-frame-clause-none c =
    none-frame_in c.from_residual.result c.args.bytes.now
    (c.from_residual.ensures ∙ sym (frame_in-unread c.args.bytes.now (sym c.frame_read.ensures ∙ c.in_err-frame.was)))

pub returns-else-eq-clause-none : goal.returns-else-eq-clause-none
returns-else-eq-clause-none c =
    none-spelled c.args.bytes.now c.in_ok-frame.frame (sym c.frame_read.ensures ∙ c.in_ok-frame.was) (rw (← c.encode_frame.ensures) (sym c.if-eq.ensures))
