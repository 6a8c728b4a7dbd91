use Rattle.ss_program.proofs.Common.{Ok, step-none, TakesNone, between}
use Rattle.ss_program.proofs.AmidLemmas.{TakesNone-still}
use Rattle.ss_program.proofs.talk.Talk.make_room.Goals as goal

pub returns-then-has_room-clause-takes : goal.returns-then-has_room-clause-takes
returns-then-has_room-clause-takes g c =
    let disk = g.D.Disk.seen c.args.disk.now in
    let at = between c.args.self.now (g.K.Sink.held c.args.sink.now) in
    step-none disk (TakesNone at at (Ok tt)) (λ told. TakesNone-still at disk.told tt (g.met.D.Disk.knows_now c.args.disk.now told))
