use Rattle.ss_connection.proofs.EventLemmas.{event-in-time}
use Rattle.ss_connection.proofs.SaysLemmas.{Applies-as, Says-applied, Says-unapplied}
use Rattle.ss_program.proofs.Common.{◌≡◌, Err, Ok, rules, step-as}
use Rattle.ss_connection.proofs.connection.lines.say_event.Goals as goal

pub returns-in_err-reply-clause-says : goal.returns-in_err-reply-clause-says
returns-in_err-reply-clause-says g c =
    let status = c.in_err-reply.field-0.0 in
    let same : c.from_residual.result ≡ Err status = search rules in
    rw same (step-as c.in_err-reply.ensures.applies (λ applies.
    Says-unapplied status (Applies-as (Err status) (λ history. event-in-time history c.args.event.now c.requires.in_time) applies)))

pub returns-clause-says : goal.returns-clause-says
returns-clause-says g c =
    step-as c.in_ok-reply.ensures.applies (λ applies. Says-applied c.in_ok-reply.reply c.say.ensures.text
    (Applies-as (Ok c.in_ok-reply.reply) (λ history. event-in-time history c.args.event.now c.requires.in_time) applies))
