use Rattle.ss_recover.proofs.Common.{◌≡◌, All, are_in_time, Found, IsUsable, length, Some, without_slots}
use Rattle.ss_recover.proofs.marking.are_in_time.Given as goal

abbrev pub invariant-loop-first : goal.invariant-loop-first
invariant-loop-first l =
    (are_in_time (Some 0) (without_slots l.found) ≡ are_in_time l.from (without_slots l.left)) × All (λ (f : Found). IsUsable f.holds) l.left

abbrev pub decreases-loop-first : goal.decreases-loop-first
decreases-loop-first l = length l.left
