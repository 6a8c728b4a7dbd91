use Rattle.ss_recover.proofs.Common.{◌≡◌, drop, lies_free, list_all}
use Rattle.ss_recover.proofs.WindowLaws.{windows_at}
use Rattle.ss_recover.proofs.windows.lie_free.Given as goal

abbrev pub invariant-loop-one : goal.invariant-loop-one
invariant-loop-one g l =
    list_all (lies_free l.landmarks.landmarks) (windows_at l.id l.found)
    ≡ list_all (lies_free l.landmarks.landmarks) (windows_at l.id (drop l.one-index l.found))
