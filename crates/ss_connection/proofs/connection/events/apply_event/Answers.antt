use Rattle.ss_connection.proofs.CallLemmas.{unstarved}
use Rattle.ss_connection.proofs.HoldsLemmas.{Brings-after}
use Rattle.ss_program.specs.declared.status.Status.{Status}
use Rattle.ss_program.proofs.Common.{◌≡◌, ◌++◌, Err, Ok, Reply, Result, rules, step-as, step-then, the_event}
use Rattle.ss_connection.specs.Typed.{event_brings}
use Rattle.ss_connection.proofs.connection.events.apply_event.Goals as goal

pub returns-in_err-reply-clause-applies : goal.returns-in_err-reply-clause-applies
returns-in_err-reply-clause-applies g c =
    let status = c.in_err-reply.field-0.0 in
    let same : c.from_residual.result ≡ Err status = search rules in
    rw same (step-as c.in_err-reply.ensures.stages (λ stages. record {
      each = λ history staged held.
          let adds = stages.each history staged held in
          (record { holds = tt; any_moment = adds.0.any_moment }, tt);
      starves = stages.starves;
    }))

pub returns-in_err-seal_store-clause-applies : goal.returns-in_err-seal_store-clause-applies
returns-in_err-seal_store-clause-applies g c =
    let status = c.in_err-seal_store.field-0.0 in
    let same : c.from_residual-in_err-seal_store.result ≡ Err status = search rules in
    rw same (step-then c.in_ok-reply.ensures.stages c.in_err-seal_store.ensures.seals (λ stages seals. record {
      each = λ history staged held.
          let adds = stages.each history staged held in
          let more = the_event (event_brings (history ++ staged) c.args.event.now).event in
          (Brings-after (Err status) (Err status) (λ X has. has) adds.0.any_moment (seals.each history (staged ++ more) adds.0.holds), tt);
      starves = λ history staged held.
          let stopped : Result Reply Status = Err status in unstarved _ (g.D.Disk.seen c.stage_event.new.disk).tells stopped c.in_err-seal_store.ensures.status;
    }))

pub returns-clause-applies : goal.returns-clause-applies
returns-clause-applies g c =
    step-then c.in_ok-reply.ensures.stages c.in_ok-seal_store.ensures.seals (λ stages seals. record {
      each = λ history staged held.
          let adds = stages.each history staged held in
          let more = the_event (event_brings (history ++ staged) c.args.event.now).event in
          (Brings-after (Ok tt) (Ok c.in_ok-reply.reply) (λ X has. has) adds.0.any_moment (seals.each history (staged ++ more) adds.0.holds), adds.1);
      starves = λ history staged held. tt;
    })
