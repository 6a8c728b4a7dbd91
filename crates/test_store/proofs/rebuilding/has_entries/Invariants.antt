use Rattle.std.proofs.Common.{IfSome}
use Rattle.ss_line.specs.Line.{StandsIn}
use Rattle.test_store.proofs.rebuilding.has_entries.Given as goal

abbrev pub invariant-loop-first : goal.invariant-loop-first
invariant-loop-first g l = IfSome l.place (StandsIn l.line.entries)
