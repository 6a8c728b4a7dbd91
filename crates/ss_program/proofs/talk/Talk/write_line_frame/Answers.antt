use Rattle.ss_program.proofs.Common.{◌∙◌, None, Ok, Option, ap, sym, meaning, Command, step-as, step-none, TakesTurn, between, event_turn, meant_turn}
use Rattle.ss_program.proofs.Common.{silent}
use Rattle.ss_program.proofs.BroughtLemmas.{TakesTurn-nothing}
use Rattle.ss_program.proofs.WrittenLemmas.{TakesTurn-alike, meant-event, meant-none}
use Rattle.ss_program.proofs.talk.Talk.write_line_frame.Goals as goal

pub returns-in-Some-clause-takes : goal.returns-in-Some-clause-takes
returns-in-Some-clause-takes g c =
    let command = c.in-Ok-Some.command in
    let means = sym c.parse.ensures.meaning ∙ c.in-Ok-Some.is ∙ ap (λ (o : Option Command). Ok o) c.in-Ok-Some.field-0-is in
    step-as c.write_event_frame.ensures.takes (λ takes. TakesTurn-alike (λ talk. event_turn talk c.in-Some.event)
    (λ talk. meant_turn talk (meaning c.args.line.now))
    (λ talk. ap (meant_turn talk) means ∙ meant-event talk command c.in-Some.event (sym c.in-Some.is ∙ c.event_of.ensures.event)) takes)

pub returns-in-None-clause-takes : goal.returns-in-None-clause-takes
returns-in-None-clause-takes g c =
    let disk = g.D.Disk.seen c.args.disk.now in
    let self = c.args.self.now in
    let held = g.K.Sink.held c.args.sink.now in
    let at = between self held in
    let means = sym c.parse.ensures.meaning ∙ c.in-Ok-Some.is ∙ ap (λ (o : Option Command). Ok o) c.in-Ok-Some.field-0-is in
    step-none disk (TakesTurn (λ talk. meant_turn talk (meaning c.args.line.now)) at at (Ok tt)) (λ told.
    TakesTurn-alike (λ talk. silent talk) (λ talk. meant_turn talk (meaning c.args.line.now))
    (λ talk. ap (meant_turn talk) means ∙ meant-none talk c.in-Ok-Some.command (sym c.in-None.is ∙ c.event_of.ensures.event))
    (TakesTurn-nothing None self.store.records self.waiting held self.sessions disk.told tt (g.met.D.Disk.knows_now c.args.disk.now told)))

pub returns-in-Ok-None-clause-takes : goal.returns-in-Ok-None-clause-takes
returns-in-Ok-None-clause-takes g c =
    let disk = g.D.Disk.seen c.args.disk.now in
    let self = c.args.self.now in
    let held = g.K.Sink.held c.args.sink.now in
    let at = between self held in
    let means = sym c.parse.ensures.meaning ∙ c.in-Ok-None.is ∙ ap (λ (o : Option Command). Ok o) c.in-Ok-None.field-0-is in
    step-none disk (TakesTurn (λ talk. meant_turn talk (meaning c.args.line.now)) at at (Ok tt)) (λ told.
    TakesTurn-alike (λ talk. silent talk) (λ talk. meant_turn talk (meaning c.args.line.now))
    (λ talk. ap (meant_turn talk) means)
    (TakesTurn-nothing None self.store.records self.waiting held self.sessions disk.told tt (g.met.D.Disk.knows_now c.args.disk.now told)))

pub returns-in-Err-clause-takes : goal.returns-in-Err-clause-takes
returns-in-Err-clause-takes g c =
    let disk = g.D.Disk.seen c.args.disk.now in
    let self = c.args.self.now in
    let held = g.K.Sink.held c.args.sink.now in
    let at = between self held in
    let means = sym c.parse.ensures.meaning ∙ c.in-Err.is in
    step-none disk (TakesTurn (λ talk. meant_turn talk (meaning c.args.line.now)) at at (Ok tt)) (λ told.
    TakesTurn-alike (λ talk. silent talk) (λ talk. meant_turn talk (meaning c.args.line.now))
    (λ talk. ap (meant_turn talk) means)
    (TakesTurn-nothing None self.store.records self.waiting held self.sessions disk.told tt (g.met.D.Disk.knows_now c.args.disk.now told)))
