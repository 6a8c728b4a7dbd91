use Rattle.std.proofs.Common.{◌≡◌, ◌∙◌, ap, arith}
use Rattle.ss_checksum.specs.Checksum.{after_bits}
use Rattle.ss_dump.proofs.SumLemmas.{ones, turned-twice}
use Rattle.ss_dump.proofs.summing.front_of.Goals as goal

pub returns : goal.returns
returns c =
    let all : c.loop.counter ≡ 32 = omega (arith, c.loop-test.false, c.loop.auto.counter-end) in
    let leads : after_bits 32 c.loop.word ≡ c.args.state = rw all at c.loop.invariant in
    ap (after_bits 32) (turned-twice c.loop.word ones) ∙ leads
