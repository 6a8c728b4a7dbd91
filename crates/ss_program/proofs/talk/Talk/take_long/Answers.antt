use Rattle.ss_program.proofs.Common.{Ok, None, ⊎_elim, step-none, TakesTurn, between, kept_turn}
use Rattle.ss_program.proofs.BroughtLemmas.{TakesTurn-nothing}
use Rattle.ss_program.proofs.talk.Talk.take_long.Goals as goal

pub returns-in-Frames-clause-takes : goal.returns-in-Frames-clause-takes
returns-in-Frames-clause-takes g c =
    let disk = g.D.Disk.seen c.args.disk.now in
    let self = c.args.self.now in
    let held = g.K.Sink.held c.args.sink.now in
    let at = between self held in
    step-none disk (TakesTurn (kept_turn c.args.form None) at at (Ok tt)) (λ told.
    let silent = TakesTurn-nothing None self.store.records self.waiting held self.sessions disk.told tt (g.met.D.Disk.knows_now c.args.disk.now told) in
    ⊎_elim (λ is. rw is silent) (λ is. rw is silent) c.in-Frames.is)
