use Rattle.ss_program.proofs.Common.{refl, shown-sealed, TakesNone, amid, owed_by, with_text, at_sink}
use Rattle.ss_program.proofs.SealLemmas.{TakesNone-sent, TakesNone-unsealed, each-sent, step-sink}
use Rattle.ss_program.proofs.StepLemmas.{step-so}
use Rattle.ss_program.specs.declared.replies.Seals.TheVariants as seal
use Rattle.ss_program.proofs.saying.send_sealed.Goals as goal

pub returns-in-Err-clause-takes : goal.returns-in-Err-clause-takes
returns-in-Err-clause-takes g c cursors =
    step-so c.in-Err.ensures.seals (λ told seals.
    TakesNone-unsealed c.args.store.now.records c.seal.new.self.records (with_text (owed_by seal.Each) c.args.text.now) (owed_by seal.Each)
    (g.K.Sink.held c.args.sink.now) (g.D.Disk.seen c.args.disk.now).told (g.D.Disk.seen c.seal.new.disk).told c.in-Err.field-0
    (g.met.D.Disk.knows_now c.seal.new.disk told) seals.history (refl, c.requires.some) cursors)

pub returns-in-Ok-clause-takes : goal.returns-in-Ok-clause-takes
returns-in-Ok-clause-takes g c cursors =
    let old = (g.D.Disk.seen c.args.disk.now).told in
    let new = (g.D.Disk.seen c.seal.new.disk).told in
    let is = c.seal.new.self.records in
    let held = g.K.Sink.held c.args.sink.now in
    let after = g.K.Sink.held c.send.new.sink in
    let was = c.args.store.now.records in
    let owed = with_text (owed_by seal.Each) c.args.text.now in
    let same = shown-sealed is.journal new.content c.in-Ok.ensures.sealed.sealed in
    rw c.at_sink.ensures
    (step-sink {S = TakesNone (amid was owed held cursors) (amid is (owed_by seal.Each) after cursors) (at_sink c.send.result)} c.send.result
    (step-so c.in-Ok.ensures.seals (λ told seals.
    TakesNone-sent was is owed (owed_by seal.Each) held after old new c.in-Ok.field-0 c.send.result (g.met.D.Disk.knows_now c.seal.new.disk told) same
    seals.history refl (each-sent 1) (λ bytes less. (refl, less)) c.send.ensures.sends cursors)))
