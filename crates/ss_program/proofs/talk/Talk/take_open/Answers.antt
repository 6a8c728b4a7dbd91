use Rattle.ss_program.proofs.Common.{◌∙◌, Some, sym, StoreState, Cursors, amid, owed_by, open_brings, Talk, turn_said, ap}
use Rattle.ss_program.proofs.BroughtLemmas.{TakesTurn-said, step-starved}
use Rattle.ss_program.proofs.OrderLemmas.{TakesOpened, TakesOpened-stopped}
use Rattle.ss_program.proofs.StepLemmas.{step-told, step-given}
use Rattle.ss_program.proofs.TakesLemmas.{Continues-apply}
use Rattle.ss_program.proofs.CursorLemmas.{open-some}
use Rattle.ss_program.proofs.talk.Talk.take_open.Goals as goal

pub returns-in-Ok-clause-takes : goal.returns-in-Ok-clause-takes
returns-in-Ok-clause-takes g c =
    let old = g.D.Disk.seen c.args.disk.now in
    let mid = g.D.Disk.seen c.open_cursor.new.disk in
    let self = c.args.self.now in
    let session = c.args.session in
    let name = c.args.name.now in
    let opens = c.in-Ok.ensures.opens in
    step-told opens c.say.ensures.takes (λ told first second.
    TakesTurn-said (λ (talk : Talk). turn_said (Some session) (open_brings talk.history talk.cursors session name)) tt c.say.result
    (TakesOpened session name self.store.records c.open_cursor.new.store.records self.waiting (g.K.Sink.held c.args.sink.now)
    self.sessions old.told mid.told (g.met.D.Disk.knows_now c.args.disk.now (sym opens.tells ∙ told)) (g.met.D.Disk.knows_now c.open_cursor.new.disk told)
    c.open_cursor.new.sessions c.in-Ok.reply tt c.in-Ok.ensures.journal first) second)

pub returns-in-OutOfMemory-clause-takes : goal.returns-in-OutOfMemory-clause-takes
returns-in-OutOfMemory-clause-takes g c =
    let session = c.args.session in
    let name = c.args.name.now in
    let self = c.args.self.now in
    let starved = c.in-Err.ensures.starved c.in-OutOfMemory.is in
    let opens = c.in-Err.ensures.opens in
    let at = λ (store : StoreState) (cursors : Cursors). amid store.records (owed_by self.waiting) (g.K.Sink.held c.args.sink.now) cursors in
    step-given (step-starved (ap (λ d. g.D.Disk.seen d) starved.0)
    (ap (λ (store : StoreState). at store c.open_cursor.new.sessions) starved.1 ∙ ap (at self.store) c.in-Err.ensures.unopened) c.starve.ensures.takes)
    (λ told starves.
    starves (λ talk. turn_said (Some session) (open_brings talk.history talk.cursors session name)) (λ here same stands. (
      rw same ((opens.told told).accepted here.history stands),
      open-some here.history here.cursors session name,
    )))

pub returns-in_default : goal.returns-in_default
returns-in_default g c =
    let old = g.D.Disk.seen c.args.disk.now in
    let self = c.args.self.now in
    let opens = c.in-Err.ensures.opens in
    let status = c.in-Err.status in
    record {
      takes = step-given opens (λ told opened.
          TakesOpened-stopped c.args.session c.args.name.now self.store.records c.open_cursor.new.store.records self.waiting
          (g.K.Sink.held c.args.sink.now) self.sessions old.told (g.D.Disk.seen c.open_cursor.new.disk).told
          (g.met.D.Disk.knows_now c.args.disk.now told) (g.met.D.Disk.knows_now c.open_cursor.new.disk (opens.tells ∙ told)) (owed_by self.waiting)
          c.open_cursor.new.sessions status c.in_default.not-OutOfMemory opened);
      continues = Continues-apply old.tells (g.K.Sink.faults c.args.sink.now) status c.in-Err.ensures.status;
    }
