use Rattle.ss_connection.proofs.EventLemmas.{Stages-as, event-in-time, in-time-tested}
use Rattle.ss_program.proofs.Common.{step-as, sym}
use Rattle.ss_connection.proofs.connection.events.stage_event.Goals as goal

pub returns-then-is_in_time-clause-stages : goal.returns-then-is_in_time-clause-stages
returns-then-is_in_time-clause-stages g c =
    let result = c.stage_in_time.result in
    let event = c.args.event.now in
    let fits = in-time-tested event (sym c.if-is_in_time.ensures) in
    step-as c.stage_in_time.ensures.stages (λ stages. Stages-as result (λ history. sym (event-in-time history event fits)) stages)
