use Rattle.ss_recover.proofs.Common.{◌≡◌, are_numbered, drop, without_slots}
use Rattle.ss_recover.proofs.marking.are_numbered.Given as goal

abbrev pub invariant-loop-one : goal.invariant-loop-one
invariant-loop-one l = are_numbered 0 0 (without_slots l.found) ≡ are_numbered l.landmarks l.values (without_slots (drop l.one-index l.found))
