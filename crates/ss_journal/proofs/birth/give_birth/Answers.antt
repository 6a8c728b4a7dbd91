use Rattle.ss_journal.proofs.BirthLemmas.{Leads-joined, born-joined}
use Rattle.ss_journal.proofs.StepLemmas.{after-step, durably-failed, reaches-joined, step-failed, step-next, step-next_failed, step-pair}
use Rattle.ss_journal.proofs.Common.{IsFormed, Leads}
use Rattle.ss_journal.proofs.birth.give_birth.Goals as goal

pub returns-in_err-begin : goal.returns-in_err-begin
returns-in_err-begin g c =
    let failed = c.from_residual in
    step-failed failed.result failed.ensures.0 c.in_err-begin.ensures (λ told begins. durably-failed failed.result failed.ensures.0 begins)

pub form-requires : goal.form-requires
form-requires g c = record {
  begun = after-step c.in_ok-begin.ensures (λ told begins. begins.reached.0.there);
}

pub returns-in_err-form : goal.returns-in_err-form
returns-in_err-form g c =
    let failed = c.from_residual-in_err-form in
    step-next_failed failed.result failed.ensures.0 c.in_ok-begin.ensures c.in_err-form.ensures
    (λ told then begins forms. durably-failed failed.result failed.ensures.0
    (reaches-joined {S = Leads IsFormed} _ _ begins forms (λ was is. Leads-joined _ _ _ was.0 is)))

pub open_gate-requires : goal.open_gate-requires
open_gate-requires g c = record { formed = after-step c.in_ok-form.ensures (λ told forms. forms.reached.there) }

pub returns : goal.returns
returns g c =
    step-next (step-pair c.in_ok-begin.ensures c.in_ok-form.ensures) c.open_gate.ensures
    (λ told then both opens. born-joined _ _ _ _ _ _ c.open_gate.result both.1 both.2 opens)
