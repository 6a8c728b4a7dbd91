use Rattle.ss_recover.proofs.Common.{◌+◌, ◌≡◌, ◌≤◌, drop, length, values_first, without_slots}
use Rattle.ss_recover.proofs.marking.count_values.Given as goal

abbrev pub invariant-loop-one : goal.invariant-loop-one
invariant-loop-one l =
    (length (values_first (without_slots l.found)) ≡ l.count + length (values_first (without_slots (drop l.one-index l.found)))) × (l.count ≤ l.one-index)
