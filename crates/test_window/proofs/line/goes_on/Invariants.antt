use Rattle.std.proofs.Common.{IfSome}
use Rattle.ss_line.specs.Line.{StandsIn}
use Rattle.test_window.proofs.line.goes_on.Given as goal

abbrev pub invariant-forth : goal.invariant-forth
invariant-forth g l = IfSome l.place (StandsIn l.line.entries)
