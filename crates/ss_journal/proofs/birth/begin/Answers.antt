use Rattle.ss_journal.proofs.Common.{arith}
use Rattle.ss_journal.proofs.BirthLemmas.{begun-failed, begun-short, begun-long}
use Rattle.ss_journal.proofs.StepLemmas.{step-from, step-next, step-next_failed}
use Rattle.ss_journal.proofs.birth.begin.Goals as goal

pub returns-in_err-write_through : goal.returns-in_err-write_through
returns-in_err-write_through g c =
    let failed = c.from_residual-in_err-write_through in
    step-next_failed failed.result failed.ensures.0 c.in_ok-len.ensures c.in_err-write_through.ensures.wrote
    (λ told then asked wrote. begun-failed _ _ _ (g.met.D.Disk.knows_now c.args.disk.now told) asked.reads (omega (arith, c.if-branch-le1.true, asked.length))
    failed.result failed.ensures.0 wrote.step)

pub returns-in_ok-write_through : goal.returns-in_ok-write_through
returns-in_ok-write_through g c =
    step-next c.in_ok-len.ensures c.in_ok-write_through.ensures.wrote
    (λ told then asked wrote. begun-short _ _ _ (g.met.D.Disk.knows_now c.args.disk.now told) asked.reads (omega (arith, c.if-branch-le1.true, asked.length)) _
    _ wrote)

pub returns-else-branch-le1 : goal.returns-else-branch-le1
returns-else-branch-le1 g c =
    step-from c.in_ok-len.ensures
    (λ told asked. begun-long _ _ (g.met.D.Disk.knows_now c.args.disk.now told) asked.reads (c.requires.unborn told)
    (omega (arith, c.if-branch-le1.false, asked.length)) _)
