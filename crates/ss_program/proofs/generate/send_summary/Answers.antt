use Rattle.ss_program.proofs.Common.{◌≡◌, Err, rules}
use Rattle.ss_program.proofs.GenerateLemmas.{Sends-less, Sends-summary}
use Rattle.ss_program.proofs.generate.send_summary.Goals as goal

pub returns-in_err-send_counts-clause-sends : goal.returns-in_err-send_counts-clause-sends
returns-in_err-send_counts-clause-sends g c lines all tallies =
    let same : c.from_residual.result ≡ Err c.in_err-send_counts.field-0.0 = search rules in
    rw same
    (Sends-less (g.K.Sink.held c.args.sink.now) (g.K.Sink.held c.send_counts.new.sink) c.args.seed c.args.count lines all c.args.tally.now tallies
    c.in_err-send_counts.ensures.sends)

pub returns-clause-sends : goal.returns-clause-sends
returns-clause-sends g c lines all tallies =
    Sends-summary (g.K.Sink.held c.args.sink.now) (g.K.Sink.held c.send_counts.new.sink) (g.K.Sink.held c.send_replies.new.sink) c.args.seed c.args.count
    lines all
    c.args.tally.now c.send_replies.result tallies c.in_ok-send_counts.ensures.sends (rw c.as_slice.ensures.value at c.send_replies.ensures.sends)
