use Rattle.std.proofs.Common.{◌≡◌, Err, None, rules}
use Rattle.ss_file.specs.Reason.{IsOwn}
use Rattle.ss_file.specs.declared.reason.Reason.{Reason}
use Rattle.ss_file.proofs.WhyLemmas.{told-passed}
use Rattle.ss_file.proofs.opening.open_to_write.Goals as goal

pub returns-in_err-require_apart-clause-own : goal.returns-in_err-require_apart-clause-own
returns-in_err-require_apart-clause-own g c =
    let same : c.from_residual.result ≡ Err c.in_err-require_apart.field-0.0 = search rules in
    let system = c.require_apart.new.system in
    told-passed (λ (reason : Reason). reason.error ≡ None → IsOwn c.args.path.now None (g.S.System.holds system) (g.S.System.fits system) reason.trouble)
    _ _ same (c.in_err-require_apart.ensures.own c.args.path.now)

pub returns-in_err-lock-clause-own : goal.returns-in_err-lock-clause-own
returns-in_err-lock-clause-own g c =
    let same : c.from_residual-in_err-lock.result ≡ Err c.in_err-lock.field-0.0 = search rules in
    let system = c.lock.new.system in
    told-passed (λ (reason : Reason). reason.error ≡ None → IsOwn c.args.path.now None (g.S.System.holds system) (g.S.System.fits system) reason.trouble)
    _ _ same (c.in_err-lock.ensures.own c.args.path.now)
