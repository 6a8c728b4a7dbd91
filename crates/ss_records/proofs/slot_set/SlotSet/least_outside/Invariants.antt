use Rattle.ss_records.specs.Tree.{FullBefore}
use Rattle.ss_records.proofs.slot_set.SlotSet.least_outside.Given as goal

abbrev pub invariant-loop-n : goal.invariant-loop-n
invariant-loop-n l = FullBefore l.n l.self-inside.top.items
