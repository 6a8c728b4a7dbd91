use Rattle.ss_program.proofs.Common.{Some, close_brings, Talk, turn_said}
use Rattle.ss_program.proofs.BroughtLemmas.{TakesTurn-said}
use Rattle.ss_program.proofs.OrderLemmas.{TakesClosed}
use Rattle.ss_program.proofs.StepLemmas.{step-told}
use Rattle.ss_program.proofs.TakesLemmas.{still}
use Rattle.ss_program.proofs.talk.Talk.take_close.Goals as goal

pub returns-clause-takes : goal.returns-clause-takes
returns-clause-takes g c =
    let disk = g.D.Disk.seen c.args.disk.now in
    let self = c.args.self.now in
    let session = c.args.session in
    step-told (still disk) c.say.ensures.takes (λ told first second.
    TakesTurn-said (λ (talk : Talk). turn_said (Some session) (close_brings talk.cursors session)) tt c.say.result
    (TakesClosed session self.store.records self.waiting (g.K.Sink.held c.args.sink.now) self.sessions c.close_cursor-reply.new.sessions disk.told
    c.close_cursor-reply.result tt (g.met.D.Disk.knows_now c.args.disk.now told) c.close_cursor-reply.ensures.reply c.close_cursor-reply.ensures.cursors)
    second)
