use Rattle.ss_report.proofs.FrameLemmas.{IsUtf8-frame_word}
use Rattle.ss_report.proofs.text.framed_text.Goals as goal

pub unreachable-requires : goal.unreachable-requires
unreachable-requires c =
    let is_text = IsUtf8-frame_word c.args.frame.now in
    c.in-Err.ensures.cases.0 (rw (← c.frame_digits-digits.ensures) at is_text)
