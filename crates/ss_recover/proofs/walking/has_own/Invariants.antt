use Rattle.ss_recover.proofs.Common.{◌≡◌, drop, is_own, list_any, without_slots}
use Rattle.ss_recover.proofs.walking.has_own.Given as goal

abbrev pub invariant-loop-one : goal.invariant-loop-one
invariant-loop-one l = list_any is_own (without_slots l.found) ≡ list_any is_own (without_slots (drop l.one-index l.found))
