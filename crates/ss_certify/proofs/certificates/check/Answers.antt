use Rattle.std.proofs.lemmas.Result.{err_from_is_err_and}
use Rattle.ss_store.specs.declared.error.AskError.TheVariants.{Refused}
use Rattle.ss_store.proofs.AnsweredQueries.{runs-seen}
use Rattle.ss_certify.proofs.CalledLemmas.{checks-seen, error-same, none-same}
use Rattle.ss_certify.proofs.certificates.check.Goals as goal

pub returns-in_err-seen-clause-refused : goal.returns-in_err-seen-clause-refused
returns-in_err-seen-clause-refused g c runs r =
    let p = err_from_is_err_and c.from_residual.result c.from_residual.ensures.1 in
    rw (p.1, p.2) (error-same c.in_err-seen.field-0.0 (Refused r) _ (c.in_err-seen.ensures.refused runs r))

pub returns-clause-checks : goal.returns-clause-checks
returns-clause-checks g c =
    let runs = runs-seen c.args.store.now.stopped c.in_ok-seen.seen c.in_ok-seen.ensures.stopped in
    checks-seen c.args.query.now c.args.end c.args.w.now c.in_ok-seen.seen c.shows.result c.shows.ensures {before = g.D.Disk.seen c.args.disk.now}
    c.args.store.now c.requires.one_disk runs c.in_ok-seen.ensures.sees

pub returns-clause-right : goal.returns-clause-right
returns-clause-right g c is = (c.in_ok-seen.seen, c.shows.ensures.0 is)

pub returns-clause-refused : goal.returns-clause-refused
returns-clause-refused g c runs r = none-same c.in_ok-seen.seen c.shows.result (Refused r) _ (c.in_ok-seen.ensures.refused runs r)
