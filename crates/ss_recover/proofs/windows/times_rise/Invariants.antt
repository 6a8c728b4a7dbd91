use Rattle.ss_recover.proofs.Common.{◌≡◌, drop, times_rise}
use Rattle.ss_recover.proofs.WindowLaws.{rise_from, windows_at}
use Rattle.ss_recover.proofs.windows.times_rise.Given as goal

abbrev pub invariant-loop-one : goal.invariant-loop-one
invariant-loop-one l = times_rise (windows_at l.id l.found) ≡ rise_from l.newest (windows_at l.id (drop l.one-index l.found))
