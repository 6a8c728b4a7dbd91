use Rattle.ss_schedule.specs.Keyed.{IsKeyed}
use Rattle.test_window.proofs.schedule.load.Given as goal

abbrev pub invariant-loop-window : goal.invariant-loop-window
invariant-loop-window g l = IsKeyed l.n l.line.entries l.schedule
