use Rattle.ss_recover.proofs.Common.{◌++◌, ◌≡◌, slots_found, take}
use Rattle.ss_recover.proofs.walking.push_slots.Given as goal

abbrev pub invariant-loop-one : goal.invariant-loop-one
invariant-loop-one l = l.slots.items ≡ l.initial.slots.items ++ slots_found (take l.one-index l.found)
