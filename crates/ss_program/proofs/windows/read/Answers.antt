use Rattle.ss_program.proofs.Common.{state, step-as}
use Rattle.ss_program.proofs.AnswerLemmas.{Stands-only_replies}
use Rattle.ss_program.proofs.windows.read.Goals as goal

pub returns-in-Ok-clause-reads : goal.returns-in-Ok-clause-reads
returns-in-Ok-clause-reads g c = step-as c.in-Ok.ensures.shows (λ shows. record {
  answer = λ history stands. shows.window (state history)
      (Stands-only_replies c.args.store.now.records (g.D.Disk.seen c.args.disk.now).told.content history c.requires.open.sealed stands).state;
  reads = shows.reads;
})

pub returns-in-Err-Disk-clause-reads : goal.returns-in-Err-Disk-clause-reads
returns-in-Err-Disk-clause-reads g c =
    step-as (rw c.in-Err-Disk.field-0-is at c.in-Err-Disk.ensures.shows) (λ shows. record { answer = tt; reads = shows.reads })
