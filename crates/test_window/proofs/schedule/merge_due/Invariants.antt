use Rattle.std.proofs.Common.{length}
use Rattle.ss_schedule.specs.Keyed.{IsKeyed}
use Rattle.test_window.proofs.schedule.merge_due.Given as goal

abbrev pub invariant-loop-pair : goal.invariant-loop-pair
invariant-loop-pair g l = IsKeyed l.n l.line.entries l.schedule

abbrev pub decreases-loop-pair : goal.decreases-loop-pair
decreases-loop-pair g l = length l.line.entries
