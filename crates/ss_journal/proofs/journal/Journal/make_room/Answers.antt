use Rattle.ss_journal.proofs.Common.{ap, arith, sym}
use Rattle.ss_journal.proofs.SealSteps.{Seals-as, room-made, room-uncleared}
use Rattle.ss_journal.proofs.StepLemmas.{step-failed, step-next, step-next_failed}
use Rattle.ss_journal.proofs.journal.Journal.make_room.Goals as goal

pub returns-clause-makes_room : goal.returns-clause-makes_room
returns-clause-makes_room g c =
    step-next c.in_ok-seal.ensures.seals c.in_ok-settle_entries.ensures.shuts (λ told then seals reaches.
    room-made c.args.self.now _ _ _ _ _ _ _ _ (Seals-as (sym c.self-2.view_is) seals)
    (rw (← c.self-2.view_is) at c.in_ok-seal.ensures.sealed.sealed) (cc) reaches)

pub returns-in_err-settle_entries-clause-makes_room : goal.returns-in_err-settle_entries-clause-makes_room
returns-in_err-settle_entries-clause-makes_room g c =
    let failed = c.from_residual-in_err-settle_entries in
    step-next_failed failed.result failed.ensures.0 c.in_ok-seal.ensures.seals c.in_err-settle_entries.ensures.shuts (λ told then seals reaches.
    room-uncleared c.args.self.now c.seal.new.self _ _ _ _ _ failed.result failed.ensures.0 seals c.in_ok-seal.ensures.sealed.sealed reaches)

pub returns-in_err-seal-clause-syncs : goal.returns-in_err-seal-clause-syncs
returns-in_err-seal-clause-syncs g c =
    let failed = c.from_residual in
    step-failed failed.result failed.ensures.0 c.in_err-seal.ensures.syncs (λ told few. record { most = omega (arith, few); sealed = λ none. few })

pub returns-in_err-settle_entries-clause-syncs : goal.returns-in_err-settle_entries-clause-syncs
returns-in_err-settle_entries-clause-syncs g c =
    let failed = c.from_residual-in_err-settle_entries in
    step-next_failed failed.result failed.ensures.0 c.in_ok-seal.ensures.syncs c.in_err-settle_entries.ensures.syncs (λ told then seals settles. record {
      most = omega (arith, seals, settles);
      sealed = λ none. omega (arith, settles, ap (λ d. (g.D.Disk.seen d).told.syncs) (c.seal.ensures.idle none).0);
    })

pub returns-clause-syncs : goal.returns-clause-syncs
returns-clause-syncs g c =
    step-next c.in_ok-seal.ensures.syncs c.in_ok-settle_entries.ensures.syncs (λ told then seals settles. record {
      most = omega (arith, seals, settles);
      sealed = λ none. omega (arith, settles, ap (λ d. (g.D.Disk.seen d).told.syncs) (c.seal.ensures.idle none).0);
    })
