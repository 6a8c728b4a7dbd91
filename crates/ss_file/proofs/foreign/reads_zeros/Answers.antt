use Rattle.std.proofs.Common.{◌≡◌, ◌∙◌, length, sym, arith}
use Rattle.std.proofs.lemmas.Grind.{get_or_default_zero}
use Rattle.ss_file.proofs.foreign.reads_zeros.Goals as goal

pub returns-clause-finds : goal.returns-clause-finds
returns-clause-finds g c bound image fits =
    let buffer = c.read_whole.new.into in
    let long : length buffer ≡ length c.args.buffer.now = c.read_whole.auto.into in
    let read = c.in_ok-read_whole.ensures.reads bound image fits in (
      λ zeros k below. sym (read k (omega (arith, long, below))) ∙ (c.is_zeros.ensures.0 zeros) k 0 (omega (arith, long, below)),
      λ zeros. c.is_zeros.ensures.1 (λ k d below.
          get_or_default_zero buffer k d below ∙ read k below ∙ zeros k (omega (arith, long, below))),
    )
