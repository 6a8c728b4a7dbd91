use Rattle.std.proofs.Common.{◌≡◌, ◌∙◌, refl, sym, Some}
use Rattle.std.proofs.lemmas.Bool.{both_ways}
use Rattle.ss_schedule.proofs.schedule.Schedule.key_of.Goals as goal

pub returns-then-not-in_step-clause-key : goal.returns-then-not-in_step-clause-key
returns-then-not-in_step-clause-key c =
    let was : c.args.pair ≡ Some c.in_ok-pair.pair = c.in_ok-pair.was in
    rw (was, ← c.self.view_is) (λ together m later few fit. both_ways _ (sym c.in_step.ensures ∙ c.if-not-in_step.true) together)

pub returns-in_err-fit-clause-key : goal.returns-in_err-fit-clause-key
returns-in_err-fit-clause-key c =
    let was : c.args.pair ≡ Some c.in_ok-pair.pair = c.in_ok-pair.was in
    rw (was, c.from_residual-in_err-fit.ensures, ← c.self.view_is) (λ together. c.in_err-fit.ensures.none)

pub returns-clause-key : goal.returns-clause-key
returns-clause-key c =
    let was : c.args.pair ≡ Some c.in_ok-pair.pair = c.in_ok-pair.was in
    rw (was, ← c.self.view_is) (record {
      left = refl;
      together = sym c.in_step.ensures ∙ c.if-not-in_step.false;
      first = c.in_ok-fit.ensures.some;
      few = c.in_ok-fit.ensures.few;
    })
