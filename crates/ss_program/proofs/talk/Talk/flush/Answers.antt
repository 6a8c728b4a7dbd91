use Rattle.ss_program.proofs.Common.{Ok, step-none, TakesNone, between}
use Rattle.ss_program.proofs.AmidLemmas.{TakesNone-still}
use Rattle.ss_program.proofs.talk.Talk.flush.Goals as goal

pub returns-in-Each-clause-takes : goal.returns-in-Each-clause-takes
returns-in-Each-clause-takes g c =
    let disk = g.D.Disk.seen c.args.disk.now in
    let at = between c.args.self.now (g.K.Sink.held c.args.sink.now) in
    step-none disk (TakesNone at at (Ok tt)) (λ told. TakesNone-still at disk.told tt (g.met.D.Disk.knows_now c.args.disk.now told))

pub returns-in-Shared-clause-takes : goal.returns-in-Shared-clause-takes
returns-in-Shared-clause-takes g c = rw c.in-Shared.is (c.send_waiting.ensures.takes c.args.self.now.sessions)
