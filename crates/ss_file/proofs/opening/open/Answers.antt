use Rattle.std.proofs.Common.{◌≡◌, Err, None, rules}
use Rattle.ss_file.specs.Reason.{IsOwn}
use Rattle.ss_file.specs.declared.reason.Reason.{Reason}
use Rattle.ss_file.proofs.WhyLemmas.{told-passed}
use Rattle.ss_file.proofs.opening.open.Goals as goal

pub returns-in_err-require_folder-clause-own : goal.returns-in_err-require_folder-clause-own
returns-in_err-require_folder-clause-own g c =
    let same : c.from_residual-in_err-require_folder.result ≡ Err c.in_err-require_folder.field-0.0 = search rules in
    let system = c.require_folder.new.system in
    told-passed (λ (reason : Reason). reason.error ≡ None → IsOwn c.args.path.now None (g.S.System.holds system) (g.S.System.fits system) reason.trouble)
    _ _ same (c.in_err-require_folder.ensures.own c.args.path.now)

pub returns-in_err-settle-clause-own : goal.returns-in_err-settle-clause-own
returns-in_err-settle-clause-own g c =
    let same : c.from_residual-in_err-settle.result ≡ Err c.in_err-settle.field-0.0 = search rules in
    let system = c.settle.new.system in
    told-passed (λ (reason : Reason). reason.error ≡ None → IsOwn c.args.path.now None (g.S.System.holds system) (g.S.System.fits system) reason.trouble)
    _ _ same (c.in_err-settle.ensures.own c.args.path.now)

pub returns-in_err-refuse_foreign-clause-own : goal.returns-in_err-refuse_foreign-clause-own
returns-in_err-refuse_foreign-clause-own g c =
    let same : c.from_residual-in_err-refuse_foreign.result ≡ Err c.in_err-refuse_foreign.field-0.0 = search rules in
    let system = c.refuse_foreign.new.system in
    told-passed (λ (reason : Reason). reason.error ≡ None → IsOwn c.args.path.now None (g.S.System.holds system) (g.S.System.fits system) reason.trouble)
    _ _ same (c.in_err-refuse_foreign.ensures.own c.args.path.now)
