use Rattle.ss_program.proofs.Common.{◌∙◌, true, None, Err, Ok, Result, refl, sym, ap, ◌∷◌, Do, Event, step-none, said_line, Reply}
use Rattle.ss_program.proofs.Common.{RecordsState, TakesTurn, amid, between, owed_by, command_in, frame_replies, Talk, event_turn, Staged, Status}
use Rattle.ss_program.proofs.BroughtLemmas.{TakesTurn-owed, TakesTurn-said, TakesTurn-silent, TakesTurn-stopped, step-starved}
use Rattle.ss_program.proofs.FrameLemmas.{Turns-answered, done-framed, drop-silent, refused-silent, same-written, says-frame, written-wants}
use Rattle.ss_program.proofs.StepLemmas.{step-told, step-given}
use Rattle.ss_program.proofs.TakesLemmas.{Continues-apply, Continues-shown}
use Rattle.ss_program.proofs.talk.Talk.write_event_frame.Goals as goal

pub returns-in-Drop-clause-takes : goal.returns-in-Drop-clause-takes
returns-in-Drop-clause-takes g c =
    let disk = g.D.Disk.seen c.args.disk.now in
    let turn = λ (talk : Talk). event_turn talk c.args.event.now in
    let self = c.args.self.now in
    let held = g.K.Sink.held c.args.sink.now in
    let at = between self held in
    step-none disk (TakesTurn turn at at (Ok tt)) (λ told.
    TakesTurn-silent turn self.store.records self.waiting held self.sessions disk.told tt (g.met.D.Disk.knows_now c.args.disk.now told) (λ here stands.
    ap (λ (e : Event). event_turn here e) c.in-Drop.is ∙ drop-silent here c.in-Drop.name))

pub returns-in-Refused : goal.returns-in-Refused
returns-in-Refused g c =
    let disk = g.D.Disk.seen c.args.disk.now in
    let event = c.args.event.now in
    let turn = λ (talk : Talk). event_turn talk event in
    let self = c.args.self.now in
    let held = g.K.Sink.held c.args.sink.now in
    let from = between self held in
    let staged = c.in-Ok.staged in
    let idle = c.in-Ok.ensures.idle c.in-Refused.field-0 c.in-Refused.is in
    let stages = c.in-Ok.ensures.stages in
    record {
      takes = rw (idle.1, idle.0) (step-none disk (TakesTurn turn from from (Ok tt)) (λ told.
          TakesTurn-silent turn self.store.records self.waiting held self.sessions disk.told tt (g.met.D.Disk.knows_now c.args.disk.now told) (λ here stands.
          refused-silent here event c.in-Refused.field-0 (frame_replies staged.frame)
          ((stages.told told).replies here.history stands ∙ ap (λ (r : Reply). r ∷ frame_replies staged.frame) c.in-Refused.is))));
      continues = record { ready = rw (idle.1, idle.0) c.requires.ready; status = tt; counted = refl };
    }

pub returns-in-Some : goal.returns-in-Some
returns-in-Some g c =
    let old = g.D.Disk.seen c.args.disk.now in
    let mid = g.D.Disk.seen c.stage_framed.new.disk in
    let event = c.args.event.now in
    let turn = λ (talk : Talk). event_turn talk event in
    let self = c.args.self.now in
    let was = self.store.records in
    let is = c.stage_framed.new.store.records in
    let waiting = self.waiting in
    let cursors = self.sessions in
    let held = g.K.Sink.held c.args.sink.now in
    let staged = c.in-Ok.staged in
    let frame = c.in-Some.frame in
    let result : Result Staged Status = Ok staged in
    let stages = c.in-Ok.ensures.stages in
    record {
      takes = step-told stages c.say_text.ensures.takes (λ told first second.
          TakesTurn-said turn tt c.say_text.result
          (TakesTurn-owed turn was is waiting held cursors old.told mid.told (g.met.D.Disk.knows_now c.stage_framed.new.disk told) staged cursors
          c.encode_frame.result tt
          (λ here. Turns-answered was is here.history old.told mid.told (command_in true here.history (Do event)).event (event_turn here event).event
          result result (same-written here event c.in_default.not-Drop) (λ X has. has) (first.turns here.history))
          (λ here same stands.
          let says = says-frame here event frame staged.frame c.in-Some.is (first.frame refl here.history stands) in
          (says.0 ∙ sym c.encode_frame.ensures, says.1 ∙ same))) second);
      continues = Continues-shown c.say_text.result mid.tells old.tells stages.tells c.say_text.ensures.continues;
    }

pub returns-in-None : goal.returns-in-None
returns-in-None g c =
    let old = g.D.Disk.seen c.args.disk.now in
    let mid = g.D.Disk.seen c.stage_framed.new.disk in
    let event = c.args.event.now in
    let turn = λ (talk : Talk). event_turn talk event in
    let self = c.args.self.now in
    let was = self.store.records in
    let is = c.stage_framed.new.store.records in
    let waiting = self.waiting in
    let cursors = self.sessions in
    let held = g.K.Sink.held c.args.sink.now in
    let staged = c.in-Ok.staged in
    let reply = staged.reply in
    let result : Result Staged Status = Ok staged in
    let stages = c.in-Ok.ensures.stages in
    record {
      takes = step-told stages c.say.ensures.takes (λ told first second.
          TakesTurn-said turn tt c.say.result
          (TakesTurn-owed turn was is waiting held cursors old.told mid.told (g.met.D.Disk.knows_now c.stage_framed.new.disk told) staged cursors
          (said_line None reply) tt
          (λ here. Turns-answered was is here.history old.told mid.told (command_in true here.history (Do event)).event (event_turn here event).event
          result result (same-written here event c.in_default.not-Drop) (λ X has. has) (first.turns here.history))
          (λ here same stands. absurd (done-framed here.history event reply c.in_default.not-Drop c.in_default-reply.not-Refused
          (first.replies here.history stands ∙ ap (λ f. reply ∷ frame_replies f) c.in-None.is)
          (sym c.in-None.is ∙ first.frame refl here.history stands)))) second);
      continues = Continues-shown c.say.result mid.tells old.tells stages.tells c.say.ensures.continues;
    }

pub returns-in-OutOfMemory-clause-takes : goal.returns-in-OutOfMemory-clause-takes
returns-in-OutOfMemory-clause-takes g c =
    let event = c.args.event.now in
    let self = c.args.self.now in
    let starved = c.in-Err.ensures.starved c.in-OutOfMemory.is in
    let at = λ (records : RecordsState). amid records (owed_by self.waiting) (g.K.Sink.held c.args.sink.now) self.sessions in
    step-given (step-starved (ap (λ d. g.D.Disk.seen d) starved.0) (ap at starved.1) c.starve.ensures.takes) (λ told starves.
    starves (λ talk. event_turn talk event) (λ here same stands.
    written-wants here event c.in_default.not-Drop (c.in-Err.ensures.accepted told here.history stands)))

pub returns-in_default-status : goal.returns-in_default-status
returns-in_default-status g c =
    let old = g.D.Disk.seen c.args.disk.now in
    let new = g.D.Disk.seen c.stage_framed.new.disk in
    let event = c.args.event.now in
    let turn = λ (talk : Talk). event_turn talk event in
    let self = c.args.self.now in
    let was = self.store.records in
    let is = c.stage_framed.new.store.records in
    let stages = c.in-Err.ensures.stages in
    let status = c.in-Err.status in
    let result : Result Staged Status = Err status in
    let waiting = self.waiting in
    let cursors = self.sessions in
    let held = g.K.Sink.held c.args.sink.now in
    record {
      takes = step-given stages (λ told staged.
          TakesTurn-stopped turn was is waiting held cursors old.told new.told
          (g.met.D.Disk.knows_now c.stage_framed.new.disk (stages.tells ∙ told)) {T = Staged} (amid is (owed_by waiting) held cursors) status refl
          c.in_default-status.not-OutOfMemory
          (λ here stands. (written-wants here event c.in_default.not-Drop (c.in-Err.ensures.accepted told here.history stands)).1)
          (λ here. Turns-answered was is here.history old.told new.told (command_in true here.history (Do event)).event (event_turn here event).event
          result result (same-written here event c.in_default.not-Drop) (λ X has. has) (staged.turns here.history)));
      continues = Continues-apply old.tells (g.K.Sink.faults c.args.sink.now) status c.in-Err.ensures.status;
    }
