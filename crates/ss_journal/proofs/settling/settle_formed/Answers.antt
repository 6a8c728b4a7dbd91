use Rattle.ss_journal.proofs.Common.{arith, syncs-once}
use Rattle.ss_journal.proofs.SettleSteps.{clears-failed, clears-synced}
use Rattle.ss_journal.proofs.StepLemmas.{after-step, step-failed, step-next}
use Rattle.ss_journal.proofs.settling.settle_formed.Goals as goal

pub returns-in_err-sync-clause-clears : goal.returns-in_err-sync-clause-clears
returns-in_err-sync-clause-clears g c =
    let failed = c.from_residual in
    step-failed failed.result failed.ensures.0 c.in_err-sync.ensures
    (λ told synced. clears-failed _ _ (g.met.D.Disk.knows_now c.args.disk.now told) failed.result failed.ensures.0 synced)

pub settle_entries-requires-clause-entries : goal.settle_entries-requires-clause-entries
settle_entries-requires-clause-entries g c = after-step c.in_ok-sync.ensures (λ told synced. rw synced.content (c.requires.entries told))

pub returns-clause-clears : goal.returns-clause-clears
returns-clause-clears g c =
    step-next c.in_ok-sync.ensures c.settle_entries.ensures.shuts
    (λ told then synced reaches. clears-synced _ _ (g.met.D.Disk.knows_now c.args.disk.now told) c.settle_entries.result _ _ synced reaches)

pub returns-in_err-sync-clause-syncs : goal.returns-in_err-sync-clause-syncs
returns-in_err-sync-clause-syncs g c =
    step-failed c.from_residual.result c.from_residual.ensures.0 c.in_err-sync.ensures (λ told synced. omega (arith, syncs-once _ synced))

pub returns-clause-syncs : goal.returns-clause-syncs
returns-clause-syncs g c =
    step-next c.in_ok-sync.ensures c.settle_entries.ensures.syncs (λ told then synced few. omega (arith, syncs-once _ synced, few))
