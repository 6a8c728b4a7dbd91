use Rattle.std.proofs.Common.{ℕ, ◌*◌, ◌<◌}
use Rattle.std.specs.Int.{IsGcd}
use Rattle.ss_bounds.proofs.lowest.common_divisor.Given as goal

abbrev pub invariant-loop-rest : goal.invariant-loop-rest
invariant-loop-rest l = (0 < l.divisor) × ((n g : ℕ) → 0 < n → IsGcd (l.divisor * n) (l.rest * n) g → IsGcd (l.fn.a * n) (l.fn.b * n) g)

abbrev pub decreases-loop-rest : goal.decreases-loop-rest
decreases-loop-rest l = l.rest
