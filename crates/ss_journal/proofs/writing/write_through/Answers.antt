use Rattle.ss_journal.proofs.Common.{arith, syncs-once}
use Rattle.ss_journal.proofs.StepLemmas.{rewrites-failed, rewrites-synced, step-failed, step-next}
use Rattle.ss_journal.proofs.TearLemmas.{on_err}
use Rattle.ss_journal.proofs.writing.write_through.Goals as goal

pub returns-in_err-write-clause-wrote : goal.returns-in_err-write-clause-wrote
returns-in_err-write-clause-wrote g c =
    let is = c.from_residual.ensures.0 in
    step-failed c.from_residual.result is c.in_err-write.ensures.wrote (λ told wrote. record { step = rewrites-failed _ is wrote; durable = on_err _ _ is })

pub returns-clause-wrote : goal.returns-clause-wrote
returns-clause-wrote g c =
    step-next c.in_ok-write.ensures.wrote c.sync.ensures (λ told then wrote synced. record {
      step = rewrites-synced _ _ wrote (g.met.D.Disk.knows_now c.write.new.disk then) synced;
      durable = synced.durable;
    })

pub returns-in_err-write-clause-syncs : goal.returns-in_err-write-clause-syncs
returns-in_err-write-clause-syncs g c =
    step-failed c.from_residual.result c.from_residual.ensures.0 c.in_err-write.ensures.syncs (λ told few. omega (arith, few))

pub returns-clause-syncs : goal.returns-clause-syncs
returns-clause-syncs g c =
    step-next c.in_ok-write.ensures.syncs c.sync.ensures (λ told then few synced. omega (arith, few, syncs-once c.sync.result synced))
