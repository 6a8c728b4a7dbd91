use Rattle.std.proofs.Common.{◌≡◌, ◌∙◌, true, false, sym}
use Rattle.std.proofs.lemmas.Result.{err_from_is_err_and}
use Rattle.ss_query.proofs.SeenEntries.{seen-changed, seen-err, seen-more}
use Rattle.ss_query.proofs.walking.see_entry.Goals as goal

pub returns-in_err-read_window-clause-sees : goal.returns-in_err-read_window-clause-sees
returns-in_err-read_window-clause-sees g c =
    let p = err_from_is_err_and c.from_residual.result c.from_residual.ensures.1 in
    rw (p.1, p.2)
    (seen-err c.args.query.now c.args.seen c.in_err-read_window.field-0.0 c.in_err-read_window.ensures.reads)

pub returns-then-not-follows-clause-sees : goal.returns-then-not-follows-clause-sees
returns-then-not-follows-clause-sees g c =
    seen-changed c.args.query.now c.args.seen c.in_ok-read_window.ensures.reads
    (λ follows. (let wrong : false ≡ true = sym c.if-not-follows.true ∙ c.follows.ensures.after.1 follows in cc))

pub returns-clause-sees : goal.returns-clause-sees
returns-clause-sees g c =
    seen-more c.args.query.now c.args.seen c.in_ok-read_window.ensures.reads c.if-entry-query.false c.requires.begins
    c.with_window.result c.with_window.ensures.value
