use Rattle.ss_program.proofs.Common.{◌≡◌, Err, refl, sym, rules, shown-sealed, step-as, on_ok_weaker, IsOpen, command_brings, Talk, turn_brought}
use Rattle.ss_program.proofs.AnswerLemmas.{rows-event}
use Rattle.ss_program.proofs.BroughtLemmas.{TakesTurn-next, TakesTurn-unsealed, shown-opened}
use Rattle.ss_program.proofs.PutLemmas.{TakesTurn-put}
use Rattle.ss_program.proofs.StepLemmas.{step-told}
use Rattle.ss_program.proofs.TakesLemmas.{show-memory}
use Rattle.ss_program.proofs.talk.Talk.show_rows.Goals as goal

pub returns-in_err-flush-clause-takes : goal.returns-in_err-flush-clause-takes
returns-in_err-flush-clause-takes g c =
    let status = c.in_err-flush.field-0.0 in
    let same : c.from_residual.result ≡ Err status = search rules in
    rw same (step-as c.in_err-flush.ensures.takes (λ takes.
    TakesTurn-unsealed (λ talk. turn_brought c.args.speaker talk (command_brings talk.history c.args.command.now)) status takes))

pub returns-clause-takes : goal.returns-clause-takes
returns-clause-takes g c =
    let mid = g.D.Disk.seen c.flush.new.disk in
    let new = g.D.Disk.seen c.show.new.disk in
    let left = c.flush.new.self in
    let command = c.args.command.now in
    let flushed = c.in_ok-flush.ensures in
    let shows = c.show.ensures in
    let result = c.show.result in
    let turn = λ (talk : Talk). turn_brought c.args.speaker talk (command_brings talk.history command) in
    step-told flushed.takes shows.reads (λ told first reads.
    TakesTurn-next turn tt result first
    (TakesTurn-put turn left.waiting (g.K.Sink.held c.flush.new.sink)
    (g.K.Sink.held c.show.new.sink) left.sessions left.sessions mid.told new.told (g.met.D.Disk.knows_now c.flush.new.disk told) flushed.none
    (shown-sealed left.store.records.journal mid.told.content flushed.continues.ready.sealed) reads
    (λ here there. rows-event here.history command c.requires.rows) result (show-memory mid.tells result shows.status)
    (shown-opened new c.show.new.store result shows.opens) (λ here there stands. shows.sends told here.history stands _ refl)
    (on_ok_weaker result (λ (is_open : IsOpen new c.show.new.store) (here : Talk) there. sym there) shows.opens)))
