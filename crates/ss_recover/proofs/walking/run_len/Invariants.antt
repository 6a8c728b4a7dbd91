use Rattle.ss_recover.proofs.Common.{◌+◌, ◌≡◌, drop, run_len}
use Rattle.ss_recover.proofs.walking.run_len.Given as goal

abbrev pub invariant-loop-at : goal.invariant-loop-at
invariant-loop-at l = run_len l.id l.found ≡ l.at + run_len l.id (drop l.at l.found)
