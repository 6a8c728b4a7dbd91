use Rattle.ss_program.proofs.Common.{◌≡◌, ◌∙◌, Err, Some, ap, drop, refl, sym, take, rules, arith, Window, cursor_of, with_cursor, placed_rows}
use Rattle.ss_program.proofs.CursorLemmas.{fits-rows, next-left, next-none, next-rest, next-row, placed-all, with_cursor-same}
use Rattle.ss_program.proofs.SendLemmas.{appended-nil}
use Rattle.ss_program.proofs.RowLemmas.{rows-all, rows-less, rows-more}
use Rattle.ss_program.proofs.cursors.send_next.Goals as goal

pub loop-shown-init : goal.loop-shown-init
loop-shown-init g c = record {
  few = omega arith;
  cursors = λ rows is. sym (with_cursor-same c.args.sessions.now c.args.session rows is);
  held = λ rows is. sym (appended-nil (g.K.Sink.held c.args.sink.now));
  faults = refl;
}

pub take-requires-clause-cursor : goal.take-requires-clause-cursor
take-requires-clause-cursor g c =
    let has = c.requires.left in
    rw (next-left c.args.sessions.now c.args.session has.0 has.1 c.loop-shown.sessions c.loop-shown.shown (c.loop-shown.invariant.cursors has.0 has.1))

pub unreachable-requires : goal.unreachable-requires
unreachable-requires g c =
    let has = c.requires.left in
    let past = next-none c.args.sessions.now c.args.session has.0 has.1 c.loop-shown.sessions c.loop-shown.shown
    (c.loop-shown.invariant.cursors has.0 has.1) c.in_default.ensures.next in
    omega (arith, past, has.2, c.loop-shown-test.true)

pub returns-in_err-send_reply-clause-sends : goal.returns-in_err-send_reply-clause-sends
returns-in_err-send_reply-clause-sends g c rows has =
    let shown = c.loop-shown.shown in
    let inv = c.loop-shown.invariant in
    let at = next-row c.args.sessions.now c.args.session rows has c.loop-shown.sessions shown (inv.cursors rows has) c.args.count c.in-Some.row
    c.in-Some.ensures.next c.loop-shown-test.true in
    let same : c.from_residual.result ≡ Err c.in_err-send_reply.field-0.0 = search rules in
    rw same
    (rows-less (Some c.args.session) (g.K.Sink.held c.args.sink.now) (g.K.Sink.held c.loop-shown.sink) (g.K.Sink.held c.send_reply.new.sink)
    (placed_rows (take c.args.count rows)) shown (Window c.in-Some.row) at (inv.held rows has) c.in_err-send_reply.ensures.sends)

pub loop-shown-preserved : goal.loop-shown-preserved
loop-shown-preserved g c =
    let shown = c.loop-shown.shown in
    let inv = c.loop-shown.invariant in
    record {
      few = omega (arith, c.loop-shown-test.true);
      cursors = λ rows has. next-rest c.args.sessions.now c.args.session rows has c.loop-shown.sessions shown (inv.cursors rows has) c.take.new.self
          c.in-Some.ensures.rest;
      held = λ rows has.
          let at = next-row c.args.sessions.now c.args.session rows has c.loop-shown.sessions shown (inv.cursors rows has) c.args.count c.in-Some.row
          c.in-Some.ensures.next c.loop-shown-test.true in
          rows-more (Some c.args.session) (g.K.Sink.held c.args.sink.now) (g.K.Sink.held c.loop-shown.sink) (g.K.Sink.held c.send_reply.new.sink)
          (placed_rows (take c.args.count rows)) shown (Window c.in-Some.row) at (inv.held rows has) c.in_ok-send_reply.ensures.sends;
      faults = c.in_ok-send_reply.ensures.counted ∙ inv.faults;
    }

pub returns-clause-sends : goal.returns-clause-sends
returns-clause-sends g c rows has =
    let shown = c.loop-shown.shown in
    let inv = c.loop-shown.invariant in
    let fits = fits-rows (cursor_of c.args.sessions.now c.args.session) c.args.count c.requires.left rows has in
    let all = placed-all rows c.args.count fits in
    rows-all (Some c.args.session) (g.K.Sink.held c.args.sink.now) (g.K.Sink.held c.loop-shown.sink) (placed_rows (take c.args.count rows)) shown
    (omega (arith, inv.few, c.loop-shown-test.false, all)) (inv.held rows has)

pub returns-clause-cursors : goal.returns-clause-cursors
returns-clause-cursors g c rows has =
    let inv = c.loop-shown.invariant in
    let done : c.loop-shown.shown ≡ c.args.count = omega (arith, inv.few, c.loop-shown-test.false) in
    inv.cursors rows has ∙ ap (λ n. with_cursor c.args.sessions.now c.args.session (Some (drop n rows))) done
