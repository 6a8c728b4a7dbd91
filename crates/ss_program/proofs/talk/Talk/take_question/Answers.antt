use Rattle.ss_program.proofs.Common.{◌≡◌, ◌∙◌, Err, Ok, sym, rules, question_command, owed_by, History, command_brings, turn_brought}
use Rattle.ss_program.proofs.AnswerLemmas.{question-event, question-some}
use Rattle.ss_program.proofs.BroughtLemmas.{TakesBrought-owed, TakesTurn-said, TakesBrought-stopped}
use Rattle.ss_program.proofs.StagingLemmas.{Stages-asked}
use Rattle.ss_program.proofs.StepLemmas.{step-given, step-told}
use Rattle.ss_program.proofs.StopLemmas.{going-disk}
use Rattle.ss_program.proofs.talk.Talk.take_question.Goals as goal

pub returns-in_err-reply-clause-takes : goal.returns-in_err-reply-clause-takes
returns-in_err-reply-clause-takes g c =
    let old = g.D.Disk.seen c.args.disk.now in
    let new = g.D.Disk.seen c.ask.new.disk in
    let self = c.args.self.now in
    let question = c.args.question.now in
    let status = c.in_err-reply.field-0.0 in
    let same : c.from_residual.result ≡ Err status = search rules in
    let asks = c.in_err-reply.ensures.asks in
    let brought = λ (history : History). command_brings history (question_command question) in
    rw same (step-given asks (λ told asked.
    TakesBrought-stopped c.args.speaker brought self.store.records c.ask.new.store.records self.waiting (g.K.Sink.held c.args.sink.now) self.sessions
    old.told new.told (g.met.D.Disk.knows_now c.ask.new.disk (asks.tells ∙ told)) (owed_by self.waiting) status
    (going-disk old.tells status c.in_err-reply.ensures.status)
    (λ history stands. question-some c.args.speaker history question)
    (Stages-asked brought (Err status) old.told new.told (λ history. question-event history question) (g.met.D.Disk.knows_now c.args.disk.now told) tt
    asked)))

pub returns-clause-takes : goal.returns-clause-takes
returns-clause-takes g c =
    let old = g.D.Disk.seen c.args.disk.now in
    let mid = g.D.Disk.seen c.ask.new.disk in
    let self = c.args.self.now in
    let question = c.args.question.now in
    let asks = c.in_ok-reply.ensures.asks in
    let reply = c.in_ok-reply.reply in
    let brought = λ (history : History). command_brings history (question_command question) in
    step-told asks c.say.ensures.takes (λ told first second.
    TakesTurn-said (λ talk. turn_brought c.args.speaker talk (brought talk.history)) tt c.say.result
    (TakesBrought-owed c.args.speaker brought self.store.records c.ask.new.store.records self.waiting (g.K.Sink.held c.args.sink.now) self.sessions
    old.told mid.told (g.met.D.Disk.knows_now c.ask.new.disk told) reply tt
    (Stages-asked brought (Ok reply) old.told mid.told (λ history. question-event history question)
    (g.met.D.Disk.knows_now c.args.disk.now (sym asks.tells ∙ told)) c.in_ok-reply.ensures.journal first)) second)
