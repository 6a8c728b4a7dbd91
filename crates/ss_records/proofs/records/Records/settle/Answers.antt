use Rattle.ss_journal.proofs.StepLemmas.{step-from}
use Rattle.ss_records.proofs.RecordLemmas.{settles-records}
use Rattle.ss_records.proofs.records.Records.settle.Goals as goal

pub settle-requires-clause-one_disk : goal.settle-requires-clause-one_disk
settle-requires-clause-one_disk g c told = rw (← c.self.view_is) at (c.requires.one_disk told).journal

pub returns-clause-settles : goal.returns-clause-settles
returns-clause-settles g c =
    step-from c.settle.ensures.settles (λ told settles.
    settles-records c.self.inside.journal c.self.inside.live c.self.inside.pages c.args.self.now c.self.view_is _ (c.requires.one_disk told)
    _ c.settle.new.self c.settle.result c.requires.sealed c.settle.ensures.settled settles)
