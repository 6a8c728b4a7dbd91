use Rattle.ss_recover.proofs.Common.{◌≡◌, drop, rise_within, values_first, without_slots}
use Rattle.ss_recover.proofs.marking.rise_within.Given as goal

abbrev pub invariant-loop-one : goal.invariant-loop-one
invariant-loop-one l =
    rise_within l.start l.finish (values_first (without_slots l.found))
    ≡ rise_within l.from l.finish (values_first (without_slots (drop l.one-index l.found)))
