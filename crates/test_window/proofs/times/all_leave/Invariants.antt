use Rattle.std.proofs.Common.{◌≤◌, All}
use Rattle.test_window.proofs.times.all_leave.Given as goal

abbrev pub invariant-loop-row : goal.invariant-loop-row
invariant-loop-row l = All (λ e. e.0 ≤ l.last) l.times
