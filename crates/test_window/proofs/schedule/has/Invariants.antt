use Rattle.std.proofs.Common.{IfSome}
use Rattle.ss_line.specs.Line.{StandsIn}
use Rattle.test_window.proofs.schedule.has.Given as goal

abbrev pub invariant-loop-window : goal.invariant-loop-window
invariant-loop-window g l = IfSome l.place (StandsIn l.line.entries)
