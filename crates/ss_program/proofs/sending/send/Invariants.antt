use Rattle.ss_program.proofs.Common.{◌≡◌, ◌-◌, ◌≤◌, length, take, appended}
use Rattle.ss_program.proofs.sending.send.Given as goal

-- the sink got so many bytes from the front
abbrev pub invariant-loop-sent : goal.invariant-loop-sent
invariant-loop-sent g l = record {
  fits : l.sent ≤ length l.text;
  held : g.K.Sink.held l.sink ≡ appended (g.K.Sink.held l.fn.sink) (take l.sent l.text);
  faults : g.K.Sink.faults l.sink ≡ g.K.Sink.faults l.fn.sink;
}

abbrev pub decreases-loop-sent : goal.decreases-loop-sent
decreases-loop-sent g l = length l.text - l.sent
