use Rattle.std.proofs.Common.{take}
use Rattle.ss_outside.specs.Past.{CountsToSync}
use Rattle.ss_outside.proofs.past.Past.synced.Given as goal

abbrev pub invariant-loop-k : goal.invariant-loop-k
invariant-loop-k l = CountsToSync l.synced (take l.k l.self.calls)
