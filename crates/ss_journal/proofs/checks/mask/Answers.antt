use Rattle.ss_journal.proofs.Common.{arith, sym}
use Rattle.ss_journal.proofs.CheckLemmas.{masked_from-more, masked_from-none}
use Rattle.ss_journal.proofs.checks.mask.Goals as goal

pub loop-k-init : goal.loop-k-init
loop-k-init c = sym (masked_from-none c.args.place c.args.mask c.args.bytes.now)

pub loop-k-preserved : goal.loop-k-preserved
loop-k-preserved c =
    let more = masked_from-more c.args.place c.args.mask c.args.bytes.now c.loop-k.k (omega arith) (omega arith) in
    rw c.loop-k.invariant more
