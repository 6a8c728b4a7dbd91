use Rattle.ss_journal.proofs.StepLemmas.{step-from}
use Rattle.ss_records.proofs.RecordLemmas.{seals-failed, seals-records}
use Rattle.ss_records.proofs.records.Records.seal.Goals as goal

pub seal-requires-clause-one_disk : goal.seal-requires-clause-one_disk
seal-requires-clause-one_disk g c told = rw (← c.self.view_is) at (c.requires.one_disk told).journal

pub returns-in-Err-clause-seals : goal.returns-in-Err-clause-seals
returns-in-Err-clause-seals g c =
    step-from c.in-Err.ensures.seals (λ told step.
    seals-failed c.self.inside.journal c.self.inside.live c.self.inside.pages c.args.self.now c.self.view_is _ _ _ _ step)

pub returns-clause-seals : goal.returns-clause-seals
returns-clause-seals g c =
    step-from c.in_default.ensures.seals (λ told step.
    seals-records c.self.inside.journal c.self.inside.live c.self.inside.pages c.args.self.now c.self.view_is _ (c.requires.one_disk told)
    _ c.seal.new.self _ _ step)
