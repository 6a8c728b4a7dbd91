use Rattle.ss_journal.proofs.Common.{arith, step-none}
use Rattle.ss_journal.proofs.StepLemmas.{step-next, step-next_failed}
use Rattle.ss_journal.proofs.WriteSteps.{BlankTo-failed, BlankTo-more, BlankTo-none}
use Rattle.ss_journal.proofs.writing.write_zeros.Goals as goal

pub loop-from-init : goal.loop-from-init
loop-from-init g c = record {
  low = omega arith;
  high = omega arith;
  step = step-none _ _ (λ told. BlankTo-none c.args.at c.args.end _ (g.met.D.Disk.knows_now c.args.disk.now told) (c.requires.within told));
}

pub returns-in_err-write_piece : goal.returns-in_err-write_piece
returns-in_err-write_piece g c =
    step-next_failed c.from_residual.result c.from_residual.ensures.0 c.loop-from.invariant.step c.in_err-write_piece.ensures
    (λ told then so_far wrote. BlankTo-failed c.args.at c.loop-from.from c.args.end c.min-count.result _ _ _ (g.met.D.Disk.knows_now c.loop-from.disk then)
    c.loop-from.invariant.low (omega arith) so_far c.from_residual.result c.from_residual.ensures.0 wrote)

pub loop-from-preserved : goal.loop-from-preserved
loop-from-preserved g c = record {
  low = omega arith;
  high = omega arith;
  step = step-next c.loop-from.invariant.step c.in_ok-write_piece.ensures
      (λ told then so_far wrote. BlankTo-more c.args.at c.loop-from.from c.args.end c.min-count.result _ _ _ (g.met.D.Disk.knows_now c.loop-from.disk then)
      c.loop-from.invariant.low (omega arith) so_far _ (c.requires.within told) wrote);
}
