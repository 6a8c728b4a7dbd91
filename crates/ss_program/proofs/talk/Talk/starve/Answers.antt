use Rattle.ss_program.proofs.Common.{shown-sealed, step-as}
use Rattle.ss_program.proofs.AmidLemmas.{owed-nothing}
use Rattle.ss_program.proofs.BroughtLemmas.{TakesTurn-starved, TakesTurn-unsealed}
use Rattle.ss_program.proofs.StepLemmas.{step-so}
use Rattle.ss_program.proofs.talk.Talk.starve.Goals as goal

pub returns-in-Ok-clause-takes : goal.returns-in-Ok-clause-takes
returns-in-Ok-clause-takes g c =
    let flushed = c.in-Ok.ensures in
    let left = c.flush.new.self in
    step-so flushed.takes (λ told takes turn wants.
    TakesTurn-starved turn (g.met.D.Disk.knows_now c.flush.new.disk told) (owed-nothing left.waiting flushed.none)
    (shown-sealed left.store.records.journal (g.D.Disk.seen c.flush.new.disk).told.content flushed.continues.ready.sealed) wants takes)

pub returns-in-Err-clause-takes : goal.returns-in-Err-clause-takes
returns-in-Err-clause-takes g c =
    step-as c.in-Err.ensures.takes (λ takes turn wants. TakesTurn-unsealed turn c.in-Err.status takes)
