use Rattle.ss_program.proofs.Common.{◌∙◌, Ok, Option, Some, ap, step-none, Order, TakesTurn, between, nothing, turn_brought}
use Rattle.ss_program.proofs.BroughtLemmas.{TakesTurn-nothing}
use Rattle.ss_program.proofs.talk.Talk.take_said.Goals as goal

pub returns-in-Ok-None-clause-takes : goal.returns-in-Ok-None-clause-takes
returns-in-Ok-None-clause-takes g c =
    let disk = g.D.Disk.seen c.args.disk.now in
    let self = c.args.self.now in
    let session = c.args.session in
    let held = g.K.Sink.held c.args.sink.now in
    let at = between self held in
    rw (c.in-Ok-None.is ∙ ap (λ (o : Option Order). Ok o) c.in-Ok-None.field-0-is)
    (step-none disk (TakesTurn (λ talk. turn_brought (Some session) talk nothing) at at (Ok tt)) (λ told.
    TakesTurn-nothing (Some session) self.store.records self.waiting held self.sessions disk.told tt (g.met.D.Disk.knows_now c.args.disk.now told)))
