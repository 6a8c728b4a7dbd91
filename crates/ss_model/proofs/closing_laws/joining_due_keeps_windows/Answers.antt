use Rattle.ss_model.proofs.JoinLemmas.{AreWindows-JoinsDue, taken-JoinsDue, newest_time-JoinsDue, lie_free-JoinsDue}
use Rattle.ss_model.proofs.closing_laws.joining_due_keeps_windows.Goals as goal

pub returns-clause-windows : goal.returns-clause-windows
returns-clause-windows c = AreWindows-JoinsDue

pub returns-clause-taken : goal.returns-clause-taken
returns-clause-taken c = taken-JoinsDue

pub returns-clause-newest_time : goal.returns-clause-newest_time
returns-clause-newest_time c = newest_time-JoinsDue

pub returns-clause-free : goal.returns-clause-free
returns-clause-free c = lie_free-JoinsDue
