use Rattle.ss_program.proofs.Common.{shown-sealed, TakesNone, amid, owed_by, at_sink}
use Rattle.ss_program.proofs.SealLemmas.{TakesNone-sent, TakesNone-unsealed, shared-sent, step-sink}
use Rattle.ss_program.proofs.StepLemmas.{step-so}
use Rattle.ss_program.specs.declared.replies.Seals.TheVariants as seal
use Rattle.ss_program.proofs.saying.send_waiting.Goals as goal

pub returns-in-Err-clause-takes : goal.returns-in-Err-clause-takes
returns-in-Err-clause-takes g c cursors =
    let owed = owed_by (seal.Shared c.args.waiting.now) in
    step-so c.in-Err.ensures.seals (λ told seals.
    TakesNone-unsealed c.args.store.now.records c.seal.new.self.records owed owed (g.K.Sink.held c.args.sink.now)
    (g.D.Disk.seen c.args.disk.now).told (g.D.Disk.seen c.seal.new.disk).told c.in-Err.field-0 (g.met.D.Disk.knows_now c.seal.new.disk told)
    seals.history tt cursors)

pub returns-in-Ok-clause-takes : goal.returns-in-Ok-clause-takes
returns-in-Ok-clause-takes g c cursors =
    let old = (g.D.Disk.seen c.args.disk.now).told in
    let new = (g.D.Disk.seen c.seal.new.disk).told in
    let is = c.seal.new.self.records in
    let held = g.K.Sink.held c.args.sink.now in
    let after = g.K.Sink.held c.send.new.sink in
    let was = c.args.store.now.records in
    let owed = owed_by (seal.Shared c.args.waiting.now) in
    let owes = owed_by (seal.Shared c.clear.new.self) in
    let same = shown-sealed is.journal new.content c.in-Ok.ensures.sealed.sealed in
    rw c.at_sink-sent.ensures
    (step-sink {S = TakesNone (amid was owed held cursors) (amid is owes after cursors) (at_sink c.send.result)} c.send.result
    (step-so c.in-Ok.ensures.seals (λ told seals.
    TakesNone-sent was is owed owes held after old new c.in-Ok.field-0 c.send.result (g.met.D.Disk.knows_now c.seal.new.disk told) same seals.history
    c.clear.ensures shared-sent (λ bytes less. tt) (rw c.as_slice.ensures at c.send.ensures.sends) cursors)))
