use Rattle.ss_recover.proofs.Common.{◌≡◌, are_counted, length, without_slots}
use Rattle.ss_recover.proofs.marking.are_counted.Given as goal

abbrev pub invariant-loop-first : goal.invariant-loop-first
invariant-loop-first l = are_counted (without_slots l.found) ≡ are_counted (without_slots l.left)

abbrev pub decreases-loop-first : goal.decreases-loop-first
decreases-loop-first l = length l.left
