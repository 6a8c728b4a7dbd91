use Rattle.std.proofs.Common.{◌∙◌, sym}
use Rattle.ss_schedule.proofs.OrderLemmas.{all_later, is_last_by}
use Rattle.ss_schedule.proofs.times.Times.seek.Goals as goal

pub returns-in_err-at : goal.returns-in_err-at
returns-in_err-at c =
    let none = sym (c.range.ensures.between tt) ∙ c.in_err-at.ensures.steps.0 in
    rw c.from_residual.ensures (rw c.self.view_is at (all_later c.args.t c.self.inside.places.entries none))

pub returns : goal.returns
returns c =
    let is = sym (c.range.ensures.between tt) ∙ c.in_ok-at.ensures.steps in
    rw c.self.view_is at
    (is_last_by c.args.t c.self.inside.places.entries c.next_back.new.self (c.in_ok-at.field-0-0.now, c.in_ok-at.at.now) c.range.ensures.ordered is)
