use Rattle.ss_program.proofs.Common.{◌≡◌, Err, rules, option_copied, step-as, step-then, kept_turn}
use Rattle.ss_program.proofs.BroughtLemmas.{TakesTurn-next, TakesTurn-unsealed}
use Rattle.ss_program.proofs.talk.Talk.stage_line.Goals as goal

pub returns-in_err-make_room-clause-takes : goal.returns-in_err-make_room-clause-takes
returns-in_err-make_room-clause-takes g c =
    let status = c.in_err-make_room.field-0.0 in
    let same : c.from_residual.result ≡ Err status = search rules in
    rw same
    (step-as c.in_err-make_room.ensures.takes (λ takes. TakesTurn-unsealed (kept_turn c.args.form (option_copied c.args.line)) status takes))

pub returns-clause-takes : goal.returns-clause-takes
returns-clause-takes g c =
    step-then c.in_ok-make_room.ensures.takes c.take_line.ensures.takes (λ first second.
    TakesTurn-next (kept_turn c.args.form (option_copied c.args.line)) tt c.take_line.result first second)
