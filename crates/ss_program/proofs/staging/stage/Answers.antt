use Rattle.ss_program.proofs.Common.{◌≡◌, ◌∙◌, ◌++◌, ◌∷◌, [], Err, Ok, Result, Some, refl, sym, ap, false, IsTrue, event_name, Do, added, refuses, state}
use Rattle.ss_program.proofs.Common.{reads-none, step-none, shown_by, Reply, Refused, refuses-kept, said-kept, Stands, Brought, History, command_brings}
use Rattle.ss_program.proofs.Common.{StagesBrought, Status, DiskFault}
use Rattle.ss_report.specs.declared.reply.Reply.TheVariants.{Done}
use Rattle.ss_program.proofs.AnswerLemmas.{IsSome-accepted, brings-accepted, brings-refused}
use Rattle.ss_program.proofs.StagingLemmas.{Turns-looked, Turns-staged, accepted-shown}
use Rattle.ss_program.proofs.StepLemmas.{step-given}
use Rattle.ss_program.proofs.staging.stage.Goals as goal

pub returns-in-Ok-clause-stages : goal.returns-in-Ok-clause-stages
returns-in-Ok-clause-stages g c =
    let event = c.args.event.now in
    let store = c.args.store.now in
    let old = (g.D.Disk.seen c.args.disk.now).told in
    let new = (g.D.Disk.seen c.stage.new.disk).told in
    let runs = c.requires.serves.runs in
    let applies = c.in-Ok.ensures.applies runs in
    let turns = c.in-Ok.ensures.history runs in
    let fits = accepted-shown event store (g.D.Disk.seen c.args.disk.now) (Ok c.in-Ok.ack) c.requires.serves applies.refused (λ r is. cc) in
    let result : Result Reply Status = Ok (Done c.in-Ok.ack) in
    step-given applies.step (λ told stepped. record {
      turns = λ history. Turns-staged store.records c.stage.new.self.records history old new event (Ok c.in-Ok.ack) result (λ X has. has) (fits told history)
          (turns told history);
      reply = λ history stands.
          let said = said-kept c.stage.new.self (shown_by c.stage.new.self.records new.content) (history ++ added event ∷ []) (event_name event)
          (applies.stands (applies.stops ∙ runs) (applies.step.tells ∙ told)).shown ((turns told history).content stands) in
          ap (λ (b : Brought). b.replies) (brings-accepted false history event (fits told history stands))
          ∙ ap (λ ack. Done ack ∷ []) (sym (applies.ack ∙ said));
    })

pub returns-in-Err-Refused-clause-stages : goal.returns-in-Err-Refused-clause-stages
returns-in-Err-Refused-clause-stages g c =
    let event = c.args.event.now in
    let store = c.args.store.now in
    let disk = g.D.Disk.seen c.args.disk.now in
    let r = c.in-Err-Refused.refusal in
    let runs = c.requires.serves.runs in
    let applies = c.in-Err-Refused.ensures.applies runs in
    let still : c.stage.new.disk ≡ c.args.disk.now = rw c.in-Err-Refused.field-0-is at c.in-Err-Refused.ensures.uncalled in
    let same : c.stage.new.self ≡ store = rw c.in-Err-Refused.field-0-is at applies.same in
    let result : Result Reply Status = Ok (Refused r) in
    let refused : IsTrue disk.tells → (history : History) → Stands history (shown_by store.records disk.told.content) → refuses (state history) event ≡ Some r =
    λ told history stands.
    refuses-kept store (shown_by store.records disk.told.content) history event (c.requires.serves.kept told).shown stands
    ∙ (applies.refused r).0 (ap (λ e. Err e) c.in-Err-Refused.field-0-is) in
    rw (still, same) (step-none disk (StagesBrought (λ history. command_brings history (Do event)) store.records store.records result) (λ told. record {
      turns = λ history. Turns-looked store.records store.records history disk.told disk.told (command_brings history (Do event)) result
          (g.met.D.Disk.knows_now c.args.disk.now told)
          (reads-none disk.told) refl
          (λ stands. ap (λ (b : Brought). b.event) (brings-refused false history event r (refused told history stands)));
      reply = λ history stands. ap (λ (b : Brought). b.replies) (brings-refused false history event r (refused told history stands));
    }))

pub returns-in-Err-OutOfMemory-clause-accepted : goal.returns-in-Err-OutOfMemory-clause-accepted
returns-in-Err-OutOfMemory-clause-accepted g c told history stands =
    let event = c.args.event.now in
    let applies = c.in-Err-OutOfMemory.ensures.applies c.requires.serves.runs in
    IsSome-accepted false history event (accepted-shown event c.args.store.now (g.D.Disk.seen c.args.disk.now) (Err c.in-Err-OutOfMemory.field-0)
    c.requires.serves applies.refused (λ r is. cc) told history stands)

pub returns-in-Err-Disk-clause-accepted : goal.returns-in-Err-Disk-clause-accepted
returns-in-Err-Disk-clause-accepted g c told history stands =
    let event = c.args.event.now in
    let applies = c.in-Err-Disk.ensures.applies c.requires.serves.runs in
    IsSome-accepted false history event (accepted-shown event c.args.store.now (g.D.Disk.seen c.args.disk.now) (Err c.in-Err-Disk.field-0) c.requires.serves
    applies.refused (λ r is. cc) told history stands)

pub returns-in-Err-Disk-clause-stages : goal.returns-in-Err-Disk-clause-stages
returns-in-Err-Disk-clause-stages g c =
    let event = c.args.event.now in
    let old = (g.D.Disk.seen c.args.disk.now).told in
    let new = (g.D.Disk.seen c.stage.new.disk).told in
    let runs = c.requires.serves.runs in
    let applies = c.in-Err-Disk.ensures.applies runs in
    let store = c.args.store.now in
    let fits = accepted-shown event store (g.D.Disk.seen c.args.disk.now) (Err c.in-Err-Disk.field-0) c.requires.serves applies.refused
    (λ r is. cc) in
    let result : Result Reply Status = Err DiskFault in
    let step = rw c.in-Err-Disk.field-0-is at applies.step in
    step-given step (λ told stepped. record {
      turns = λ history. Turns-staged store.records c.stage.new.self.records history old new event (Err c.in-Err-Disk.field-0) result (λ X has. tt)
          (fits told history)
          (c.in-Err-Disk.ensures.history runs told history);
      reply = λ history stands. tt;
    })
