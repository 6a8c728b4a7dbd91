use Rattle.ss_connection.proofs.SaysLemmas.{Says-asked, Says-read}
use Rattle.ss_program.proofs.AnswerLemmas.{question-event}
use Rattle.ss_program.proofs.Common.{◌≡◌, Err, rules, shown-sealed}
use Rattle.ss_program.proofs.StepLemmas.{step-given}
use Rattle.ss_connection.proofs.connection.lines.say_answer.Goals as goal

pub returns-in_err-reply-clause-says : goal.returns-in_err-reply-clause-says
returns-in_err-reply-clause-says g c =
    let status = c.in_err-reply.field-0.0 in
    let same : c.from_residual.result ≡ Err status = search rules in
    rw same (step-given c.in_err-reply.ensures.asks (λ told asks.
    Says-read (g.D.Disk.seen c.args.disk.now).tells (Err status) c.in_err-reply.ensures.status (g.met.D.Disk.knows_now c.args.disk.now told) (λ history. question-event history c.args.question.now) tt asks.reads
    (λ history held. tt)))

pub returns-clause-says : goal.returns-clause-says
returns-clause-says g c =
    let new = (g.D.Disk.seen c.ask.new.disk).told in
    step-given c.in_ok-reply.ensures.asks (λ told asks.
    Says-asked c.in_ok-reply.reply (g.met.D.Disk.knows_now c.args.disk.now told) (λ history. question-event history c.args.question.now)
    (shown-sealed c.ask.new.store.records.journal new.content (rw c.in_ok-reply.ensures.journal c.requires.open.sealed)) c.say.ensures.text asks)

pub returns-clause-open : goal.returns-clause-open
returns-clause-open g c = record {
  serves = c.in_ok-reply.ensures.serves;
  sealed = rw c.in_ok-reply.ensures.journal c.requires.open.sealed;
}
