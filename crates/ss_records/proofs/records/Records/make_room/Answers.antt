use Rattle.ss_journal.proofs.StepLemmas.{step-from}
use Rattle.ss_records.proofs.RecordLemmas.{makes-room-failed, makes-room-for}
use Rattle.ss_records.proofs.records.Records.make_room.Goals as goal

pub make_room-requires-clause-one_disk : goal.make_room-requires-clause-one_disk
make_room-requires-clause-one_disk g c told = rw (← c.self.view_is) at (c.requires.one_disk told).journal

pub returns-in-Err-clause-makes_room : goal.returns-in-Err-clause-makes_room
returns-in-Err-clause-makes_room g c =
    step-from c.in-Err.ensures.makes_room (λ told step.
    makes-room-failed c.self.inside.journal c.self.inside.live c.self.inside.pages c.args.self.now c.self.view_is _ _ _ _ step)

pub returns-clause-makes_room : goal.returns-clause-makes_room
returns-clause-makes_room g c =
    step-from c.in_default.ensures.makes_room (λ told step.
    makes-room-for c.self.inside.journal c.self.inside.live c.self.inside.pages c.args.self.now c.self.view_is _ (c.requires.one_disk told)
    _ c.make_room.new.self _ _ step)

pub returns-in-Err-clause-syncs : goal.returns-in-Err-clause-syncs
returns-in-Err-clause-syncs g c = step-from c.in-Err.ensures.syncs (λ told few. rw (← c.self.view_is) few)

pub returns-clause-syncs : goal.returns-clause-syncs
returns-clause-syncs g c = step-from c.in_default.ensures.syncs (λ told few. rw (← c.self.view_is) few)
