use Rattle.ss_program.proofs.Common.{◌≡◌, Err, Some, rules, shown-sealed, step-as, TakesTurn, amid, between, owed_by, at_sink, next_brings, Talk}
use Rattle.ss_program.proofs.Common.{turn_said}
use Rattle.ss_program.proofs.BroughtLemmas.{TakesTurn-next, TakesTurn-unsealed}
use Rattle.ss_program.proofs.OrderLemmas.{TakesShown}
use Rattle.ss_program.proofs.SealLemmas.{step-sink}
use Rattle.ss_program.proofs.StepLemmas.{step-so}
use Rattle.ss_program.proofs.talk.Talk.take_next.Goals as goal

pub returns-in_err-flush-clause-takes : goal.returns-in_err-flush-clause-takes
returns-in_err-flush-clause-takes g c =
    let status = c.in_err-flush.field-0.0 in
    let same : c.from_residual.result ≡ Err status = search rules in
    rw same
    (step-as c.in_err-flush.ensures.takes (λ takes.
    TakesTurn-unsealed (λ (talk : Talk). turn_said (Some c.args.session) (next_brings talk.cursors c.args.session c.args.count)) status takes))

pub returns-clause-takes : goal.returns-clause-takes
returns-clause-takes g c =
    let mid = g.D.Disk.seen c.flush.new.disk in
    let flush = c.flush.new.self in
    let session = c.args.session in
    let count = c.args.count in
    let left = c.show_next.new.sessions in
    let is = flush.store.records in
    let held = g.K.Sink.held c.flush.new.sink in
    let after = g.K.Sink.held c.show_next.new.sink in
    let flushed = c.in_ok-flush.ensures in
    let turn = λ (talk : Talk). turn_said (Some session) (next_brings talk.cursors session count) in
    let from = between c.args.self.now (g.K.Sink.held c.args.sink.now) in
    let sent = c.show_next.result in
    rw c.at_sink.ensures
    (step-sink {S = TakesTurn turn from (amid is (owed_by flush.waiting) after left) (at_sink sent)} sent
    (step-so flushed.takes (λ told first.
    TakesTurn-next turn tt (at_sink sent) first
    (TakesShown session count flush.waiting held after flush.sessions left mid.told sent (g.met.D.Disk.knows_now c.flush.new.disk told) flushed.none
    (shown-sealed is.journal mid.told.content flushed.continues.ready.sealed) c.show_next.ensures.says.sends c.show_next.ensures.cursors))))
