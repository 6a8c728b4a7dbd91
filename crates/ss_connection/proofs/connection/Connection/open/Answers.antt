use Rattle.ss_connection.proofs.CallLemmas.{Opens-held, Opens-starved, Opens-unheld, opening-same}
use Rattle.ss_connection.specs.Holds.{ConnectionState}
use Rattle.ss_outside.proofs.StepLemmas.{step-verdict}
use Rattle.ss_program.proofs.Common.{refl, StoreState, step-as}
use Rattle.ss_connection.proofs.connection.Connection.open.Goals as goal

pub returns-in-Ok-open-clause-opens : goal.returns-in-Ok-open-clause-opens
returns-in-Ok-open-clause-opens g c =
    step-as c.in-Ok-open.ensures.opens (λ opens. Opens-held c.in-Ok-open.store _ refl c.in-Ok-open.ensures.runs.1 opens)

pub returns-in-Err-open-clause-opens : goal.returns-in-Err-open-clause-opens
returns-in-Err-open-clause-opens g c =
    step-verdict (opening-same StoreState ConnectionState c.in-Err-open.error) c.in-Err-open.ensures.opens
    (λ opens. Opens-unheld c.in-Err-open.error opens)

pub returns-in-Err-clause-opens : goal.returns-in-Err-clause-opens
returns-in-Err-clause-opens g c = Opens-starved (g.met.D.Disk.knows_now c.args.disk.now)
