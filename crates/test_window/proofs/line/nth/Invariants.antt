use Rattle.std.proofs.Common.{IfSome}
use Rattle.ss_line.specs.Line.{StandsIn}
use Rattle.test_window.proofs.line.nth.Given as goal

abbrev pub invariant-walk : goal.invariant-walk
invariant-walk g l = IfSome l.place (StandsIn l.line.entries)
