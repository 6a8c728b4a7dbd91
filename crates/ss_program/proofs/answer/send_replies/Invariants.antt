use Rattle.ss_program.proofs.Common.{◌≡◌, take, flat_map, said_line, appended}
use Rattle.ss_program.proofs.answer.send_replies.Given as goal

-- the first replies were sent
abbrev pub invariant-loop-reply : goal.invariant-loop-reply
invariant-loop-reply g l = record {
  held : g.K.Sink.held l.sink ≡ appended (g.K.Sink.held l.fn.sink) (flat_map (said_line l.speaker) (take l.reply-index l.replies));
  faults : g.K.Sink.faults l.sink ≡ g.K.Sink.faults l.fn.sink;
}
