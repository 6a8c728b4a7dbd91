use Rattle.ss_journal.proofs.StepLemmas.{step-from}
use Rattle.ss_journal.proofs.WriteSteps.{WritesZeros-piece}
use Rattle.ss_journal.proofs.writing.write_piece.Goals as goal

pub returns : goal.returns
returns g c = step-from c.write.ensures.wrote (λ told wrote. WritesZeros-piece 4096 c.args.at c.args.count c.write.result _ _ c.requires.few wrote)
