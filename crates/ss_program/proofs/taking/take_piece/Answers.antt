use Rattle.ss_program.proofs.Common.{◌≡◌, Err, rules, step_under_way, shown-sealed, step-as, step-then, between}
use Rattle.ss_program.proofs.InputLemmas.{TakesPiece-sealed, TakesPiece-stopped}
use Rattle.ss_program.proofs.BroughtLemmas.{shown-opened}
use Rattle.ss_program.proofs.taking.take_piece.Goals as goal

pub returns-in_err-take_lines-clause-takes : goal.returns-in_err-take_lines-clause-takes
returns-in_err-take_lines-clause-takes g c =
    let old = g.D.Disk.seen c.args.disk.now in
    let new = g.D.Disk.seen c.take_lines.new.disk in
    let talk = c.args.talk.now in
    let left = c.take_lines.new.talk in
    let status = c.in_err-take_lines.field-0.0 in
    let same : c.from_residual.result ≡ Err status = search rules in
    rw (same, c.in_err-take_lines.ensures.form)
    (step-as c.in_err-take_lines.ensures.takes
    (λ takes. TakesPiece-stopped c.args.reader.now.form talk.sessions talk.store (step_under_way c.args.reader.now) talk.waiting
    (g.K.Sink.held c.args.sink.now) old.told
    (shown-sealed talk.store.records.journal old.told.content c.requires.sealed) left.sessions left.store (step_under_way c.take_lines.new.reader)
    left.waiting (g.K.Sink.held c.take_lines.new.sink) c.args.piece.now new.told status takes.stops))

pub returns-clause-takes : goal.returns-clause-takes
returns-clause-takes g c =
    let old = (g.D.Disk.seen c.args.disk.now).told in
    let then = (g.D.Disk.seen c.take_lines.new.disk).told in
    let view = g.D.Disk.seen c.flush.new.disk in
    let talk = c.args.talk.now in
    let mid = between c.take_lines.new.talk (g.K.Sink.held c.take_lines.new.sink) in
    let left = c.flush.new.self in
    rw c.in_ok-take_lines.ensures.form
    (step-then c.in_ok-take_lines.ensures.takes c.flush.ensures.takes (λ first second.
    TakesPiece-sealed c.args.reader.now.form talk.sessions talk.store (step_under_way c.args.reader.now) talk.waiting (g.K.Sink.held c.args.sink.now) old
    (shown-sealed talk.store.records.journal old.content c.requires.sealed) left.sessions left.store (step_under_way c.take_lines.new.reader) left.waiting
    (g.K.Sink.held c.flush.new.sink) c.args.piece.now view.told mid then c.flush.result first second
    (shown-opened view left.store c.flush.result c.flush.ensures.continues.ready) c.flush.ensures.none))
