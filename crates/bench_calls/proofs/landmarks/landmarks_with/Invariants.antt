use Rattle.std.proofs.Common.{◌≤◌}
use Rattle.ss_landmarks.specs.Order.{AllEndBy}
use Rattle.ss_base.specs.declared.limits.TheConstants.{LAST_TIME}
use Rattle.bench_calls.proofs.landmarks.landmarks_with.Given as goal

-- all times so far are up to the last one
abbrev pub invariant-loop-k : goal.invariant-loop-k
invariant-loop-k l = AllEndBy l.last l.landmarks.landmarks × (l.last ≤ LAST_TIME)
