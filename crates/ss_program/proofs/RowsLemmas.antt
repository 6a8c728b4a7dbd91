-- Rows that need no disk, as a call over a disk leaves them.
use Rattle.ss_program.proofs.Common.{Ok, Option, DiskView, fine, reads-none, step-none, Step, StoreState, Command, Reply, IsOpen, ReadsAnswer}
use Rattle.ss_program.proofs.AnswerLemmas.{StoreIsIn-open}
use Rattle.ss_program.specs.Rows.{AreBrought, Begins, TakesHeld, TakesRow}
use Rattle.ss_program.specs.declared.rows.Rows.{Rows}

module _ (disk : DiskView) (store : StoreState) (opens : IsOpen disk store) where
  -- what a command brings that has begun
  pub Begins-read : (command : Command) (begun : Reply × Rows) → Begins command store begun →
      Step fine disk disk (ReadsAnswer (AreBrought command store.streams) (Ok begun))
  Begins-read command begun begins = step-none disk (ReadsAnswer (AreBrought command store.streams) (Ok begun)) (λ told. record {
    answer = begins.brings disk.told.content (StoreIsIn-open disk store opens told);
    reads = reads-none disk.told;
  })

  -- the row that is taken
  pub TakesHeld-read : (before after : Rows) (taken : Option Reply) → TakesHeld store before after taken →
      Step fine disk disk (TakesRow store.streams before after (Ok taken))
  TakesHeld-read before after taken takes = step-none disk (TakesRow store.streams before after (Ok taken)) (λ told. record {
    row = takes.row disk.told.content (StoreIsIn-open disk store opens told);
    reads = reads-none disk.told;
  })
