use Rattle.ss_journal.proofs.Common.{◌≡◌, take, masked_from}
use Rattle.ss_journal.proofs.checks.mask.Given as goal

abbrev pub invariant-loop-k : goal.invariant-loop-k
invariant-loop-k l = l.bytes ≡ masked_from l.place (take l.k l.mask) l.initial.bytes
