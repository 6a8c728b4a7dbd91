use Rattle.ss_program.proofs.Common.{◌≡◌, ◌∙◌, Err, List, ap, length, min, sym, take, rules, Some, on_ok_weaker, Placed}
use Rattle.ss_program.proofs.Common.{Rows, cursor_of, with_cursor, Ordered, placed_rows}
use Rattle.ss_program.proofs.CursorLemmas.{a-cursor, next-shown, shown-least}
use Rattle.ss_program.proofs.RowLemmas.{AppendsLess-head, Sends-head}
use Rattle.ss_program.proofs.cursors.show_next.Goals as goal

pub returns-in_err-send_reply-clause-says : goal.returns-in_err-send_reply-clause-says
returns-in_err-send_reply-clause-says g c =
    let session = c.args.session in
    let cursors = c.args.sessions.now in
    let count = c.args.count in
    let held = g.K.Sink.held c.args.sink.now in
    let after = g.K.Sink.held c.send_reply-2.new.sink in
    let has = a-cursor (cursor_of cursors session) c.in-Some.left c.in-Some.ensures in
    let least = shown-least has.0 count c.min-count.result (c.min-count.ensures ∙ ap (λ n. min count n) has.2) in
    let rows = take count has.0 in
    let same : c.from_residual.result ≡ Err c.in_err-send_reply.field-0.0 = search rules in
    rw same (record {
      sends = rw (next-shown cursors session count has.0 has.1) (AppendsLess-head (Some session) held after (Rows (length rows)) (placed_rows rows)
          (rw least.1 at c.in_err-send_reply.ensures.sends));
      counted = c.in_err-send_reply.ensures.counted;
    })

pub returns-clause-says : goal.returns-clause-says
returns-clause-says g c =
    let session = c.args.session in
    let cursors = c.args.sessions.now in
    let count = c.args.count in
    let before = g.K.Sink.held c.args.sink.now in
    let held = g.K.Sink.held c.send_reply-2.new.sink in
    let after = g.K.Sink.held c.send_next.new.sink in
    let result = c.send_next.result in
    let has = a-cursor (cursor_of cursors session) c.in-Some.left c.in-Some.ensures in
    let least = shown-least has.0 count c.min-count.result (c.min-count.ensures ∙ ap (λ n. min count n) has.2) in
    let rows = take count has.0 in
    record {
      sends = rw (next-shown cursors session count has.0 has.1) (Sends-head (Some session) before held after (Rows (length rows)) (placed_rows rows) result
          (rw least.1 at c.in_ok-send_reply.ensures.sends) (rw least.0 at (c.send_next.ensures.sends has.0 has.1)));
      counted = rw c.in_ok-send_reply.ensures.counted at c.send_next.ensures.counted;
    }

pub returns-clause-cursors : goal.returns-clause-cursors
returns-clause-cursors g c =
    let session = c.args.session in
    let cursors = c.args.sessions.now in
    let count = c.args.count in
    let has = a-cursor (cursor_of cursors session) c.in-Some.left c.in-Some.ensures in
    let least = shown-least has.0 count c.min-count.result (c.min-count.ensures ∙ ap (λ n. min count n) has.2) in
    on_ok_weaker c.send_next.result (λ goes. goes has.0 has.1 ∙ ap (λ (l : List Placed). with_cursor cursors session (Some l)) least.2
    ∙ sym (ap (λ (o : Ordered). o.cursors) (next-shown cursors session count has.0 has.1))) c.send_next.ensures.cursors
