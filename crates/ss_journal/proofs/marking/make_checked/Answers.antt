use Rattle.ss_journal.proofs.Common.{ap, not, sym, both_ways}
use Rattle.ss_journal.proofs.MarkLemmas.{makes-failed, makes-marked, makes-read}
use Rattle.ss_journal.proofs.StepLemmas.{step-from, step-next, step-next_failed}
use Rattle.ss_journal.proofs.marking.make_checked.Goals.{else-is_unborn-via-then-is_unborn+else-has_no_kind, else-is_unborn-via-else-is_unborn}
use Rattle.ss_journal.proofs.marking.make_checked.Goals as goal

pub returns-in_err-mark : goal.returns-in_err-mark
returns-in_err-mark g c =
    let failed = c.from_residual-in_err-mark in
    step-next_failed failed.result failed.ensures.0 c.in_ok-head.ensures c.in_err-mark.ensures
    (λ told then head marks. makes-failed _ _ (g.met.D.Disk.knows_now c.args.disk.now told) head.reads
    (sym (c.if-is_unborn.ensures _ head.found)) (sym (c.if-has_no_kind.ensures _ head.found)) failed.result _ failed.ensures.0 marks)

pub returns-then-has_no_kind : goal.returns-then-has_no_kind
returns-then-has_no_kind g c =
    step-next c.in_ok-head.ensures c.in_ok-mark.ensures
    (λ told then head marks. makes-marked _ _ (g.met.D.Disk.knows_now c.args.disk.now told) head.reads
    (sym (c.if-is_unborn.ensures _ head.found)) (sym (c.if-has_no_kind.ensures _ head.found)) _ _ marks)

pub returns : goal.returns
returns g c =
    step-from c.in_ok-head.ensures (λ told head.
    makes-read _ _ (g.met.D.Disk.knows_now c.args.disk.now told) head.reads _ (ap not (c.is_plain.ensures _ head.found))
    (elim c.else-is_unborn.branch [
      | else-is_unborn-via-then-is_unborn+else-has_no_kind w ↦ λ unborn. sym (w.if-has_no_kind.ensures _ head.found)
      | else-is_unborn-via-else-is_unborn w ↦ λ unborn. absurd (both_ways _ (sym (w.if-is_unborn.ensures _ head.found)) unborn)
    ]))
