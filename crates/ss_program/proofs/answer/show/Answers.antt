use Rattle.ss_program.proofs.Common.{◌≡◌, ◌∙◌, Ok, Err, refl, rules, state, reads-joined, step-as, step-then, command_brings, text_said, History}
use Rattle.ss_program.proofs.SendLemmas.{AppendsLess-none}
use Rattle.ss_program.proofs.ShowLemmas.{rows-some, said-all, said-less, said-more, said-none, said-unread}
use Rattle.ss_program.proofs.TakesLemmas.{sent-all, Said-cut, Said-sent, Said-stopped}
use Rattle.ss_program.specs.Rows.{rows_left}
use Rattle.ss_program.proofs.answer.show.Goals as goal

pub returns-in_err-head : goal.returns-in_err-head
returns-in_err-head g c =
    let says = λ (history : History). text_said c.args.speaker (command_brings history c.args.command.now) in
    let status = c.in_err-head.field-0.0 in
    let same : c.from_residual.result ≡ Err status = search rules in
    rw same
    (Said-stopped says status c.in_err-head.ensures.status (step-as c.in_err-head.ensures.begins (λ begins. begins.reads)) refl
    (λ told history stands.
    AppendsLess-none (g.K.Sink.held c.args.sink.now) (says history) (rows-some c.args.speaker history c.args.command.now c.requires.rows)))

pub returns-in_err-at_sink : goal.returns-in_err-at_sink
returns-in_err-at_sink g c =
    let says = λ (history : History). text_said c.args.speaker (command_brings history c.args.command.now) in
    let before = g.K.Sink.held c.args.sink.now in
    let status = c.in_err-at_sink.field-0.0 in
    let started = c.in_ok-head.ensures in
    let same : c.from_residual-in_err-at_sink.result ≡ Err status = search rules in
    rw same
    (Said-cut says c.send_reply.result status c.in_err-at_sink.ensures (step-as started.begins (λ begins. begins.reads)) started.open c.send_reply.ensures
    (λ told history stands less.
    let all = (command_brings history c.args.command.now).replies in
    said-less c.args.speaker all before all (rows_left c.in_ok-head.rows c.args.store.now.streams (state history)) c.in_ok-head.head before
    (g.K.Sink.held c.send_reply.new.sink) ((started.begins.told told).answer history stands) (said-none c.args.speaker all before) less))

pub loop-row-init : goal.loop-row-init
loop-row-init g c =
    let before = g.K.Sink.held c.args.sink.now in
    let started = c.in_ok-head.ensures in
    let sent = sent-all c.send_reply.result c.in_ok-at_sink.field-0 c.in_ok-at_sink.ensures c.send_reply.ensures in
    record {
      is_open = started.open;
      stand = rw started.streams started.stand;
      reads = step-as started.begins (λ begins. begins.reads);
      held = λ told history stands.
          let all = (command_brings history c.args.command.now).replies in
          rw started.streams
          (said-more c.args.speaker all before all (rows_left c.in_ok-head.rows c.args.store.now.streams (state history)) c.in_ok-head.head before
          (g.K.Sink.held c.send_reply.new.sink) ((started.begins.told told).answer history stands) (said-none c.args.speaker all before) sent.0);
      faults = sent.1;
    }

pub returns-in_err-row : goal.returns-in_err-row
returns-in_err-row g c =
    let says = λ (history : History). text_said c.args.speaker (command_brings history c.args.command.now) in
    let old = g.D.Disk.seen c.args.disk.now in
    let mid = g.D.Disk.seen c.loop-row.disk in
    let new = g.D.Disk.seen c.next.new.disk in
    let status = c.in_err-row.field-0.0 in
    let inv = c.loop-row.invariant in
    let failed = c.in_err-row.ensures in
    let same : c.from_residual-in_err-row.result ≡ Err status = search rules in
    rw same
    (Said-stopped says status (rw inv.reads.tells at failed.status)
    (step-then inv.reads failed.takes (λ first second. reads-joined old.told mid.told new.told first second.reads)) inv.faults
    (λ told history stands.
    said-unread c.args.speaker (command_brings history c.args.command.now).replies (g.K.Sink.held c.args.sink.now)
    (rows_left c.loop-row.rows c.loop-row.store.streams (state history)) (g.K.Sink.held c.loop-row.sink)
    ((failed.takes.told (inv.reads.tells ∙ told)).row history (rw (inv.reads.told told).same.content stands)) (inv.held told history stands)))

pub loop-row-preserved : goal.loop-row-preserved
loop-row-preserved g c =
    let old = g.D.Disk.seen c.args.disk.now in
    let mid = g.D.Disk.seen c.loop-row.disk in
    let new = g.D.Disk.seen c.next.new.disk in
    let inv = c.loop-row.invariant in
    let taken = c.in_ok-row.ensures in
    let sent = sent-all c.send_reply-in-Some.result c.in_ok-at_sink-2.field-0 c.in_ok-at_sink-2.ensures c.send_reply-in-Some.ensures in
    record {
      is_open = taken.open;
      stand = rw taken.streams taken.goes_on.stand;
      reads = step-then inv.reads taken.takes (λ first second. reads-joined old.told mid.told new.told first second.reads);
      held = λ told history stands.
          let streams = c.loop-row.store.streams in
          let row = (taken.takes.told (inv.reads.tells ∙ told)).row history (rw (inv.reads.told told).same.content stands) in
          rw taken.streams
          (said-more c.args.speaker (command_brings history c.args.command.now).replies (g.K.Sink.held c.args.sink.now)
          (rows_left c.loop-row.rows streams (state history)) (rows_left c.next.new.self streams (state history)) c.in-Some.row
          (g.K.Sink.held c.loop-row.sink) (g.K.Sink.held c.send_reply-in-Some.new.sink) (rw c.in-Some.is at row) (inv.held told history stands) sent.0);
      faults = sent.1 ∙ inv.faults;
    }

pub returns-in_err-at_sink-2 : goal.returns-in_err-at_sink-2
returns-in_err-at_sink-2 g c =
    let says = λ (history : History). text_said c.args.speaker (command_brings history c.args.command.now) in
    let old = g.D.Disk.seen c.args.disk.now in
    let mid = g.D.Disk.seen c.loop-row.disk in
    let new = g.D.Disk.seen c.next.new.disk in
    let status = c.in_err-at_sink-2.field-0.0 in
    let inv = c.loop-row.invariant in
    let taken = c.in_ok-row.ensures in
    let same : c.from_residual-in_err-at_sink-2.result ≡ Err status = search rules in
    rw (same, ← inv.faults)
    (Said-cut says c.send_reply-in-Some.result status c.in_err-at_sink-2.ensures
    (step-then inv.reads taken.takes (λ first second. reads-joined old.told mid.told new.told first second.reads)) taken.open c.send_reply-in-Some.ensures
    (λ told history stands less.
    let streams = c.loop-row.store.streams in
    let row = (taken.takes.told (inv.reads.tells ∙ told)).row history (rw (inv.reads.told told).same.content stands) in
    said-less c.args.speaker (command_brings history c.args.command.now).replies (g.K.Sink.held c.args.sink.now)
    (rows_left c.loop-row.rows streams (state history)) (rows_left c.next.new.self streams (state history)) c.in-Some.row (g.K.Sink.held c.loop-row.sink)
    (g.K.Sink.held c.send_reply-in-Some.new.sink) (rw c.in-Some.is at row) (inv.held told history stands) less))

pub returns : goal.returns
returns g c =
    let says = λ (history : History). text_said c.args.speaker (command_brings history c.args.command.now) in
    let old = g.D.Disk.seen c.args.disk.now in
    let mid = g.D.Disk.seen c.loop-row.disk in
    let new = g.D.Disk.seen c.next.new.disk in
    let inv = c.loop-row.invariant in
    let ended = c.in_ok-row.ensures in
    Said-sent says (Ok tt) (step-then inv.reads ended.takes (λ first second. reads-joined old.told mid.told new.told first second.reads)) ended.open inv.faults
    (λ told history stands.
    let row = (ended.takes.told (inv.reads.tells ∙ told)).row history (rw (inv.reads.told told).same.content stands) in
    said-all c.args.speaker (command_brings history c.args.command.now).replies (g.K.Sink.held c.args.sink.now)
    (rows_left c.loop-row.rows c.loop-row.store.streams (state history)) (g.K.Sink.held c.loop-row.sink) (rw c.in_default.is at row).0
    (inv.held told history stands))
