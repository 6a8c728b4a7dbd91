use Rattle.ss_program.proofs.Common.{[], ◌∷◌, None, Some, refl, Do, FrameState, shown_by, command_brings, frame_brings, only_replies, turn_brought}
use Rattle.ss_program.proofs.BroughtLemmas.{TakesTurn-said, TakesBrought-still}
use Rattle.ss_program.proofs.StepLemmas.{step-told}
use Rattle.ss_program.proofs.TakesLemmas.{still}
use Rattle.ss_program.proofs.WrittenLemmas.{TakesTurn-where, frame-due}
use Rattle.ss_replica.specs.declared.judging.Due.TheVariants as due
use Rattle.ss_report.specs.declared.reply.Reply.TheVariants as said
use Rattle.ss_program.proofs.talk.Talk.offer_frame.Goals as goal

pub returns-in-Next-clause-takes : goal.returns-in-Next-clause-takes
returns-in-Next-clause-takes g c =
    let frame : FrameState = record { number = c.frame.inside.number; event = c.frame.inside.event } in
    let now = c.args.frame.now in
    let self = c.args.self.now in
    let store = self.store in
    let disk = g.D.Disk.seen c.args.disk.now in
    step-told (still disk) c.take_event.ensures.takes (λ told first second.
    TakesTurn-where c.take_event.result (λ talk. turn_brought None talk (command_brings talk.history (Do frame.event)))
    (λ talk. turn_brought None talk (frame_brings talk.history (Some now)))
    (λ talk stands. frame-due frame now due.Next store (shown_by store.records disk.told.content) talk c.frame.view_is
    (c.requires.ready.serves.kept told).shown stands c.in-Next.ensures.history)
    second)

pub returns-in-Old-clause-takes : goal.returns-in-Old-clause-takes
returns-in-Old-clause-takes g c =
    let frame : FrameState = record { number = c.frame.inside.number; event = c.frame.inside.event } in
    let now = c.args.frame.now in
    let self = c.args.self.now in
    let store = self.store in
    let disk = g.D.Disk.seen c.args.disk.now in
    let brought = only_replies (said.Old ∷ []) in
    step-told (still disk) c.say.ensures.takes (λ told first second.
    TakesTurn-where c.say.result (λ talk. turn_brought None talk brought)
    (λ talk. turn_brought None talk (frame_brings talk.history (Some now)))
    (λ talk stands. frame-due frame now due.Old store (shown_by store.records disk.told.content) talk c.frame.view_is
    (c.requires.ready.serves.kept told).shown stands c.in-Old.ensures.history)
    (TakesTurn-said (λ talk. turn_brought None talk brought) tt c.say.result
    (TakesBrought-still {was = store.records} None brought self.waiting (g.K.Sink.held c.args.sink.now) self.sessions disk.told said.Old tt
    (g.met.D.Disk.knows_now c.args.disk.now told) refl refl) second))

pub returns-in-Gap-clause-takes : goal.returns-in-Gap-clause-takes
returns-in-Gap-clause-takes g c =
    let frame : FrameState = record { number = c.frame.inside.number; event = c.frame.inside.event } in
    let now = c.args.frame.now in
    let self = c.args.self.now in
    let store = self.store in
    let disk = g.D.Disk.seen c.args.disk.now in
    let last = c.in-Gap.last in
    let brought = only_replies (said.Gap last ∷ []) in
    step-told (still disk) c.say-in-Gap.ensures.takes (λ told first second.
    TakesTurn-where c.say-in-Gap.result (λ talk. turn_brought None talk brought)
    (λ talk. turn_brought None talk (frame_brings talk.history (Some now)))
    (λ talk stands. frame-due frame now (due.Gap last) store (shown_by store.records disk.told.content) talk c.frame.view_is
    (c.requires.ready.serves.kept told).shown stands c.in-Gap.ensures.history)
    (TakesTurn-said (λ talk. turn_brought None talk brought) tt c.say-in-Gap.result
    (TakesBrought-still {was = store.records} None brought self.waiting (g.K.Sink.held c.args.sink.now) self.sessions disk.told (said.Gap last) tt
    (g.met.D.Disk.knows_now c.args.disk.now told) refl refl) second))
