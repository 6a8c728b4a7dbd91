use Rattle.ss_connection.proofs.SaysLemmas.{Says-sealed, Says-unsealed}
use Rattle.ss_program.proofs.Common.{◌≡◌, Err, rules, step-as, step-then}
use Rattle.ss_connection.proofs.connection.lines.take_line.Goals as goal

pub returns-in_err-seal_store-clause-says : goal.returns-in_err-seal_store-clause-says
returns-in_err-seal_store-clause-says g c =
    let status = c.in_err-seal_store.field-0.0 in
    let same : c.from_residual.result ≡ Err status = search rules in
    rw same (step-as c.in_err-seal_store.ensures.seals (λ seals. Says-unsealed (g.D.Disk.seen c.args.disk.now).tells status c.in_err-seal_store.ensures.status seals))

pub returns-clause-says : goal.returns-clause-says
returns-clause-says g c =
    step-then c.in_ok-seal_store.ensures.seals c.do_line.ensures.says (λ seals says.
    Says-sealed c.do_line.result seals (rw c.meaning_of.ensures.meaning at says))
