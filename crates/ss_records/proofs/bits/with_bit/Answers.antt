use Rattle.std.proofs.Common.{true, false}
use Rattle.ss_records.proofs.BitLemmas.{bit_at-with_bit}
use Rattle.ss_records.proofs.bits.with_bit.Goals as goal

pub returns-then-to : goal.returns-then-to
returns-then-to c j lt = rw c.if-to.true (bit_at-with_bit c.args.word c.args.k true c.requires j lt)

pub returns-else-to : goal.returns-else-to
returns-else-to c j lt = rw c.if-to.false (bit_at-with_bit c.args.word c.args.k false c.requires j lt)
