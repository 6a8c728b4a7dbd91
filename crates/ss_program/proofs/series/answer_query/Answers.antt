use Rattle.ss_program.proofs.Common.{Err, ap, state, step-as}
use Rattle.ss_program.proofs.AnswerLemmas.{Stands-only_replies}
use Rattle.ss_program.proofs.series.answer_query.Goals as goal

pub returns-in-Ok-clause-answers : goal.returns-in-Ok-clause-answers
returns-in-Ok-clause-answers g c = step-as c.in-Ok.ensures.answers (λ answers. record {
  answer = λ history stands. answers.answer (state history)
      (Stands-only_replies c.args.store.now.records (g.D.Disk.seen c.args.disk.now).told.content history c.requires.open.sealed stands).state;
  reads = answers.reads;
})

pub returns-in-Err-Disk-clause-answers : goal.returns-in-Err-Disk-clause-answers
returns-in-Err-Disk-clause-answers g c =
    step-as (rw c.in-Err-Disk.field-0-is at c.in-Err-Disk.ensures.answers) (λ answers. record { answer = tt; reads = answers.reads })

pub unreachable-requires : goal.unreachable-requires
unreachable-requires g c =
    let refused = (c.in-Err-Refused.ensures.refused c.requires.open.serves.runs _).0 (ap (λ e. Err e) c.in-Err-Refused.field-0-is) in
    cc (refused, c.requires.taken)
