use Rattle.ss_store.proofs.Common.{err_from_is_err_and}
use Rattle.ss_store.specs.declared.error.AskError.TheVariants.{Refused}
use Rattle.ss_store.proofs.AnsweredQueries.{answers-seen, error-same, none-same, runs-seen}
use Rattle.ss_store.proofs.store.Store.ask.Goals as goal

pub returns-in_err-seen-clause-refused : goal.returns-in_err-seen-clause-refused
returns-in_err-seen-clause-refused g c runs r =
    let p = err_from_is_err_and c.from_residual.result c.from_residual.ensures.1 in
    rw (p.1, p.2) (error-same c.in_err-seen.field-0.0 (Refused r) _ (c.in_err-seen.ensures.refused runs r))

pub returns-clause-answers : goal.returns-clause-answers
returns-clause-answers g c =
    let runs = runs-seen c.args.self.now.stopped c.in_ok-seen.seen c.in_ok-seen.ensures.stopped in
    answers-seen {before = g.D.Disk.seen c.args.disk.now} c.args.self.now c.args.query.now c.requires.one_disk runs c.in_ok-seen.seen c.outcome_seen.result
    c.outcome_seen.ensures c.in_ok-seen.ensures.sees

pub returns-clause-refused : goal.returns-clause-refused
returns-clause-refused g c runs r = none-same c.in_ok-seen.seen c.outcome_seen.result (Refused r) _ (c.in_ok-seen.ensures.refused runs r)
