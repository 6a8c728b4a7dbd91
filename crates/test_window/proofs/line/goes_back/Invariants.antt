use Rattle.std.proofs.Common.{IfSome}
use Rattle.ss_line.specs.Line.{StandsIn}
use Rattle.test_window.proofs.line.goes_back.Given as goal

abbrev pub invariant-back : goal.invariant-back
invariant-back g l = IfSome l.place (StandsIn l.line.entries)
