use Rattle.ss_program.proofs.Common.{◌≡◌, ◌∙◌, Err, length, take_all, refl, ap, rules, arith, slice_get_read, flat_map, said_line, appended}
use Rattle.ss_program.proofs.RowLemmas.{rows-less}
use Rattle.ss_program.proofs.answer.send_replies.Goals as goal

pub returns-in_err-send_reply : goal.returns-in_err-send_reply
returns-in_err-send_reply g c =
    let rows = c.args.replies.now in
    let before = g.K.Sink.held c.args.sink.now in
    let after = g.K.Sink.held c.send_reply.new.sink in
    let has = g.K.Sink.faults c.send_reply.new.sink in
    let inv = c.loop-reply.invariant in
    let at = slice_get_read rows (length rows) c.loop-reply.reply-index c.reply-item.result refl (omega (arith, c.loop-reply-test.true)) c.reply-item.is in
    let same : c.from_residual.result ≡ Err c.in_err-send_reply.field-0.0 = search rules in
    rw same (record {
      sends = rows-less c.args.speaker before (g.K.Sink.held c.loop-reply.sink) after rows c.loop-reply.reply-index c.reply-item.result at inv.held
          c.in_err-send_reply.ensures.sends;
      counted = rw inv.faults at c.in_err-send_reply.ensures.counted;
    })

pub returns : goal.returns
returns g c =
    let rows = c.args.replies.now in
    let before = g.K.Sink.held c.args.sink.now in
    record {
      sends = c.loop-reply.invariant.held
          ∙ ap (λ rs. appended before (flat_map (said_line c.args.speaker) rs)) (take_all c.loop-reply.reply-index rows
          (omega (arith, c.loop-reply-test.false)));
      counted = c.loop-reply.invariant.faults;
    }
