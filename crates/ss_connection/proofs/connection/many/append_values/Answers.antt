use Rattle.ss_connection.proofs.ManyLemmas.{Applies-stopped, Applies-sealed}
use Rattle.ss_program.proofs.Common.{◌≡◌, Err, rules, step-then}
use Rattle.ss_connection.proofs.connection.many.append_values.Goals as goal

pub returns-in_err-seal_store-clause-applies : goal.returns-in_err-seal_store-clause-applies
returns-in_err-seal_store-clause-applies g c =
    let status = c.in_err-seal_store.field-0.0 in
    let same : c.from_residual-in_err-seal_store.result ≡ Err status = search rules in
    rw same (step-then c.in_ok-taken.ensures.stages c.in_err-seal_store.ensures.seals (λ stages seals. Applies-stopped c.in_ok-taken.taken
    (g.D.Disk.seen c.stage_values.new.disk).tells status c.in_err-seal_store.ensures.status stages seals))

pub returns-clause-applies : goal.returns-clause-applies
returns-clause-applies g c =
    step-then c.in_ok-taken.ensures.stages c.in_ok-seal_store.ensures.seals (λ stages seals. Applies-sealed c.in_ok-taken.taken stages seals)
