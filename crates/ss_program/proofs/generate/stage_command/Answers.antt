use Rattle.ss_program.proofs.Common.{Ask, command_brings}
use Rattle.ss_program.proofs.AnswerLemmas.{question-event}
use Rattle.ss_program.proofs.StagingLemmas.{Stages-asked}
use Rattle.ss_program.proofs.StepLemmas.{step-given}
use Rattle.ss_program.specs.declared.answer.Question.TheVariants as questions
use Rattle.ss_program.proofs.generate.stage_command.Goals as goal

pub returns-in-Ask-clause-stages : goal.returns-in-Ask-clause-stages
returns-in-Ask-clause-stages g c =
    let query = c.in-Ask.query in
    rw c.in-Ask.is (step-given c.ask.ensures.asks (λ told asks.
    Stages-asked (λ history. command_brings history (Ask query)) c.ask.result (g.D.Disk.seen c.args.disk.now).told
    (g.D.Disk.seen c.ask.new.disk).told (λ history. question-event history (questions.Query query)) (g.met.D.Disk.knows_now c.args.disk.now told)
    c.ask.ensures.journal asks))
