use Rattle.ss_program.proofs.Common.{refl, Refused, refused, turn_brought}
use Rattle.ss_program.proofs.BroughtLemmas.{TakesTurn-said, TakesBrought-still}
use Rattle.ss_program.proofs.TakesLemmas.{still}
use Rattle.ss_program.proofs.StepLemmas.{step-told}
use Rattle.ss_program.proofs.talk.Talk.say_refusal.Goals as goal

pub returns-clause-takes : goal.returns-clause-takes
returns-clause-takes g c =
    let disk = g.D.Disk.seen c.args.disk.now in
    let self = c.args.self.now in
    let refusal = c.args.refusal in
    step-told (still disk) c.say.ensures.takes (λ told first second.
    TakesTurn-said (λ talk. turn_brought c.args.speaker talk (refused refusal)) tt c.say.result
    (TakesBrought-still {was = self.store.records} c.args.speaker (refused refusal) self.waiting (g.K.Sink.held c.args.sink.now) self.sessions
    disk.told (Refused refusal) tt (g.met.D.Disk.knows_now c.args.disk.now told) refl refl) second)
