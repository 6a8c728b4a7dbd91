use Rattle.ss_program.proofs.Common.{flat_map, ◌∙◌, ap, Do, refuses, state, RecordsState, amid, owed_by, staged_replies, Staged, said_line, History}
use Rattle.ss_program.proofs.Common.{command_in, turn_brought}
use Rattle.ss_program.proofs.AnswerLemmas.{event-some}
use Rattle.ss_program.proofs.BroughtLemmas.{TakesBrought-halted, TakesTurn-said, TakesBrought-text, step-starved}
use Rattle.ss_program.proofs.FrameLemmas.{IsSome-framed}
use Rattle.ss_program.proofs.StepLemmas.{step-told, step-given}
use Rattle.ss_program.proofs.TakesLemmas.{Continues-apply}
use Rattle.ss_program.proofs.talk.Talk.take_event.Goals as goal

pub returns-in-Ok-clause-takes : goal.returns-in-Ok-clause-takes
returns-in-Ok-clause-takes g c =
    let old = g.D.Disk.seen c.args.disk.now in
    let mid = g.D.Disk.seen c.stage_framed.new.disk in
    let self = c.args.self.now in
    let event = c.args.event.now in
    let brought = λ (history : History). command_in c.args.framed history (Do event) in
    let staged = c.in-Ok.staged in
    step-told c.in-Ok.ensures.stages c.say_staged.ensures.takes (λ told first second.
    TakesTurn-said (λ talk. turn_brought c.args.speaker talk (brought talk.history)) tt c.say_staged.result
    (TakesBrought-text c.args.speaker brought self.store.records c.stage_framed.new.store.records self.waiting
    (g.K.Sink.held c.args.sink.now) self.sessions old.told mid.told (g.met.D.Disk.knows_now c.stage_framed.new.disk told) staged
    (flat_map (said_line c.args.speaker) (staged_replies staged)) tt first.turns
    (λ history stands. ap (λ rs. flat_map (said_line c.args.speaker) rs) (first.replies history stands))) second)

pub returns-in-OutOfMemory-clause-takes : goal.returns-in-OutOfMemory-clause-takes
returns-in-OutOfMemory-clause-takes g c =
    let framed = c.args.framed in
    let event = c.args.event.now in
    let self = c.args.self.now in
    let starved = c.in-Err.ensures.starved c.in-OutOfMemory.is in
    let at = λ (records : RecordsState). amid records (owed_by self.waiting) (g.K.Sink.held c.args.sink.now) self.sessions in
    step-given (step-starved (ap (λ d. g.D.Disk.seen d) starved.0) (ap at starved.1) c.starve.ensures.takes) (λ told starves.
    starves (λ talk. turn_brought c.args.speaker talk (command_in framed talk.history (Do event))) (λ here same stands.
    let accepted = IsSome-framed framed here.history event (c.in-Err.ensures.accepted told here.history stands) in
    (accepted, event-some c.args.speaker framed here.history event (refuses (state here.history) event) accepted)))

pub returns-in_default : goal.returns-in_default
returns-in_default g c =
    let old = g.D.Disk.seen c.args.disk.now in
    let event = c.args.event.now in
    let self = c.args.self.now in
    let stages = c.in-Err.ensures.stages in
    let status = c.in-Err.status in
    record {
      takes = step-given stages (λ told staged.
          TakesBrought-halted c.args.speaker (λ history. command_in c.args.framed history (Do event)) self.store.records
          c.stage_framed.new.store.records self.waiting (g.K.Sink.held c.args.sink.now) self.sessions old.told (g.D.Disk.seen c.stage_framed.new.disk).told
          (g.met.D.Disk.knows_now c.stage_framed.new.disk (stages.tells ∙ told)) {T = Staged} (owed_by self.waiting) status c.in_default.not-OutOfMemory
          (λ history stands. event-some c.args.speaker c.args.framed history event (refuses (state history) event)
          (IsSome-framed c.args.framed history event (c.in-Err.ensures.accepted told history stands))) staged.turns);
      continues = Continues-apply old.tells (g.K.Sink.faults c.args.sink.now) status c.in-Err.ensures.status;
    }
