use Rattle.ss_journal.proofs.Common.{arith}
use Rattle.ss_journal.proofs.BirthLemmas.{long-marks, marks-failed, wipes-failed, wipes-synced}
use Rattle.ss_journal.proofs.StepLemmas.{after-step, step-next, step-next_failed, step-pair}
use Rattle.ss_journal.proofs.birth.form.Goals as goal

pub returns-in_err-write_magic : goal.returns-in_err-write_magic
returns-in_err-write_magic g c =
    let failed = c.from_residual-in_err-write_magic in
    step-next_failed failed.result failed.ensures.0 c.in_ok-len.ensures c.in_err-write_magic.ensures
    (λ told then asked marks. marks-failed _ _ _ (g.met.D.Disk.knows_now c.args.disk.now told) asked.reads (c.requires.begun told) failed.result
    failed.ensures.0 marks)

pub write_zeros-requires-clause-within : goal.write_zeros-requires-clause-within
write_zeros-requires-clause-within g c =
    after-step (step-pair c.in_ok-len.ensures c.in_ok-write_magic.ensures)
    (λ told both. long-marks _ _ _ (g.met.D.Disk.knows_now c.args.disk.now told) both.1.reads (c.requires.begun told) _ both.2)

pub returns-in_err-write_zeros : goal.returns-in_err-write_zeros
returns-in_err-write_zeros g c =
    let failed = c.from_residual-in_err-write_zeros in
    step-next_failed failed.result failed.ensures.0 (step-pair c.in_ok-len.ensures c.in_ok-write_magic.ensures) c.in_err-write_zeros.ensures
    (λ told then both wipes. wipes-failed _ _ _ (g.met.D.Disk.knows_now c.args.disk.now told) both.1.reads (c.requires.begun told) _ both.2
    _ (g.met.D.Disk.knows_now c.write_magic.new.disk then) c.max-end.result (omega (arith, c.max-end.ensures, c.min.ensures, both.1.length)) failed.result
    failed.ensures.0 wipes)

pub returns : goal.returns
returns g c =
    step-next (step-pair (step-pair c.in_ok-len.ensures c.in_ok-write_magic.ensures) c.in_ok-write_zeros.ensures) c.sync.ensures
    (λ told then all synced. let both = all.1 in
    wipes-synced _ _ _ (g.met.D.Disk.knows_now c.args.disk.now told) both.1.reads (c.requires.begun told) _ both.2
    _ (g.met.D.Disk.knows_now c.write_magic.new.disk all.0) c.max-end.result (omega (arith, c.max-end.ensures, c.min.ensures, both.1.length))
    _ _ c.sync.result (g.met.D.Disk.knows_now c.write_zeros.new.disk then) all.2 synced)
