use Rattle.ss_journal.proofs.Common.{arith}
use Rattle.ss_journal.proofs.EnterSteps.{open-enters, open-failed, within-open, within-open_gate}
use Rattle.ss_journal.proofs.StepLemmas.{after-step, step-failed, step-next}
use Rattle.ss_journal.proofs.committing.add_entries.Goals as goal

pub write_through-requires-clause-within : goal.write_through-requires-clause-within
write_through-requires-clause-within g c told =
    let fits = within-open c.args.n _ c.requires.number (c.requires.before told) in
    omega (arith, fits, c.entry_place.ensures)

pub returns-in_err-write_through-clause-enters : goal.returns-in_err-write_through-clause-enters
returns-in_err-write_through-clause-enters g c =
    let failed = c.from_residual in
    step-failed failed.result failed.ensures.0 c.in_err-write_through.ensures.wrote (λ told wrote.
    open-failed c.args.n c.args.entries.now _ c.requires.number c.requires.some c.requires.gate c.requires.few (c.requires.before told)
    c.entry_place.result _ failed.result failed.ensures.0 c.entry_place.ensures wrote)

pub write_through-requires-2-clause-within : goal.write_through-requires-2-clause-within
write_through-requires-2-clause-within g c =
    after-step c.in_ok-write_through.ensures.wrote (λ told wrote.
    let fits = within-open_gate c.args.n c.args.entries.now _ c.requires.number c.requires.some c.requires.gate c.requires.few (c.requires.before told)
    c.entry_place.result _ _ c.entry_place.ensures wrote in
    omega (arith, fits, c.entry_place-2.ensures))

pub returns-clause-enters : goal.returns-clause-enters
returns-clause-enters g c =
    step-next c.in_ok-write_through.ensures.wrote c.write_through-2.ensures.wrote (λ told then wrote opens.
    open-enters c.args.n c.args.entries.now _ c.requires.number c.requires.some c.requires.gate c.requires.few (c.requires.before told)
    c.entry_place.result _ _ c.entry_place.ensures wrote c.entry_place-2.result _ c.write_through-2.result c.entry_place-2.ensures opens)

pub returns-in_err-write_through-clause-syncs : goal.returns-in_err-write_through-clause-syncs
returns-in_err-write_through-clause-syncs g c =
    step-failed c.from_residual.result c.from_residual.ensures.0 c.in_err-write_through.ensures.syncs (λ told few. omega (arith, few))

pub returns-clause-syncs : goal.returns-clause-syncs
returns-clause-syncs g c =
    step-next c.in_ok-write_through.ensures.syncs c.write_through-2.ensures.syncs (λ told then bodies gate. omega (arith, bodies, gate))
