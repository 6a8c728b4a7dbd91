use Rattle.std.proofs.lemmas.Result.{err_from_is_err_and}
use Rattle.ss_store.specs.declared.error.AskError.TheVariants.{Refused}
use Rattle.ss_certify.proofs.CalledLemmas.{error-same, makes-seen, none-same}
use Rattle.ss_certify.proofs.certificates.make.Goals as goal

pub returns-in_err-seen-clause-refused : goal.returns-in_err-seen-clause-refused
returns-in_err-seen-clause-refused g c runs r =
    let p = err_from_is_err_and c.from_residual.result c.from_residual.ensures.1 in
    rw (p.1, p.2) (error-same c.in_err-seen.field-0.0 (Refused r) _ (c.in_err-seen.ensures.refused runs r))

pub returns-clause-makes : goal.returns-clause-makes
returns-clause-makes g c =
    makes-seen c.args.query.now c.args.end c.evidence.result c.in_ok-seen.seen c.evidence.ensures c.args.store.now.records c.requires.kind
    c.in_ok-seen.ensures.cuts c.in_ok-seen.ensures.sees

pub returns-clause-refused : goal.returns-clause-refused
returns-clause-refused g c runs r = none-same c.in_ok-seen.seen c.evidence.result (Refused r) _ (c.in_ok-seen.ensures.refused runs r)
