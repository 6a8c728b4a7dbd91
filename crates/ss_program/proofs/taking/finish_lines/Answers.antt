use Rattle.ss_program.proofs.Common.{step_under_way, shown-sealed, step-as}
use Rattle.ss_program.proofs.InputLemmas.{EndsInputRun-done, EndsInputRun-stopped}
use Rattle.ss_program.proofs.StopLemmas.{going-stop}
use Rattle.ss_program.proofs.taking.finish_lines.Goals as goal

pub returns-in-Ok-clause-ends : goal.returns-in-Ok-clause-ends
returns-in-Ok-clause-ends g c =
    let old = (g.D.Disk.seen c.args.disk.now).told in
    let new = (g.D.Disk.seen c.end_lines.new.disk).told in
    let talk = c.args.talk.now in
    let store = talk.store in
    let is = c.end_lines.new.talk.store.records in
    step-as c.in-Ok.ensures.takes (λ takes. EndsInputRun-done c.args.reader.now.form talk.sessions store (step_under_way c.args.reader.now)
    talk.waiting (g.K.Sink.held c.args.sink.now) old
    (shown-sealed store.records.journal old.content c.requires.sealed) c.end_lines.new.talk.sessions is c.end_lines.new.talk.waiting
    (g.K.Sink.held c.end_lines.new.sink) new
    (shown-sealed is.journal new.content c.in-Ok.ensures.continues.ready.sealed) c.in-Ok.ensures.none takes)

pub returns-in-Err-clause-ends : goal.returns-in-Err-clause-ends
returns-in-Err-clause-ends g c =
    let view = g.D.Disk.seen c.args.disk.now in
    let old = view.told in
    let new = (g.D.Disk.seen c.end_lines.new.disk).told in
    let talk = c.args.talk.now in
    let left = c.end_lines.new.talk in
    let store = talk.store in
    step-as c.in-Err.ensures.takes (λ takes. EndsInputRun-stopped c.args.reader.now.form talk.sessions store (step_under_way c.args.reader.now)
    talk.waiting (g.K.Sink.held c.args.sink.now) old
    (shown-sealed store.records.journal old.content c.requires.sealed) left.sessions left.store.records left.waiting
    (g.K.Sink.held c.end_lines.new.sink) new c.in-Err.status (going-stop view.tells c.in-Err.status c.in-Err.ensures.continues.status) takes)
