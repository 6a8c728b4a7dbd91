use Rattle.ss_recover.proofs.Common.{AreWindowsOf, take}
use Rattle.ss_recover.proofs.windows.windows_of.Given as goal

abbrev pub invariant-loop-one : goal.invariant-loop-one
invariant-loop-one g l = AreWindowsOf l.id (take l.one-index l.found) l.windows
