use Rattle.ss_recover.proofs.Common.{length}
use Rattle.ss_recover.proofs.RunsDone.{IsDoneTo}
use Rattle.ss_recover.proofs.walking.streams_of.Given as goal

abbrev pub invariant-loop-first : goal.invariant-loop-first
invariant-loop-first g l = IsDoneTo l.all l.left l.walk

abbrev pub decreases-loop-first : goal.decreases-loop-first
decreases-loop-first g l = length l.left
