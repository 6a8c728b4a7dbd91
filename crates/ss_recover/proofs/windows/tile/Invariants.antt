use Rattle.ss_recover.proofs.Common.{drop}
use Rattle.ss_recover.proofs.WindowLaws.{TilesTo, windows_at}
use Rattle.ss_recover.proofs.windows.tile.Given as goal

abbrev pub invariant-loop-one : goal.invariant-loop-one
invariant-loop-one l = TilesTo (windows_at l.id l.found) (windows_at l.id (drop l.one-index l.found)) l.next
