use Rattle.std.proofs.Common.{arith, ◌∙◌}
use Rattle.std.specs.Prelude.{◌<◌, ◌/◌}
use Rattle.ss_bounds.specs.Lines.{IsCrossing}
use Rattle.ss_bounds.proofs.Held.{computed-apart, computed-missing}
use Rattle.ss_bounds.proofs.LineLemmas.{IsCrossing-apart, IsCrossing-same}
use Rattle.ss_bounds.proofs.lines.crossing.Goals as goal
use Rattle.ss_bounds.proofs.lines.crossing.Goals.{Else-apart-eq0}

crossing : (c : Else-apart-eq0) → IsCrossing c.args.split (c.abs_diff-missing.result / c.from-apart.result)
crossing c =
    let apart = computed-apart _ c.split.invariant _ (c.from-apart.ensures ∙ c.abs_diff.ensures) in
    let missing = computed-missing _ c.split.invariant _ _ _ c.from.ensures c.from-2.ensures c.abs_diff-missing.ensures in
    let more : 0 < c.from-apart.result = omega arith in
    rw c.split.view_is at (IsCrossing-apart _ c.split.invariant _ _ apart missing more)

pub overflow_cast-result : goal.overflow_cast-result
overflow_cast-result c =
    let few = (crossing c).few in
    let possible = rw c.split.view_is at c.split.invariant in
    omega (arith, possible.count_high)

pub returns-then-apart-eq0 : goal.returns-then-apart-eq0
returns-then-apart-eq0 c =
    let apart = computed-apart _ c.split.invariant _ (c.from-apart.ensures ∙ c.abs_diff.ensures) in
    let missing = computed-missing _ c.split.invariant _ _ _ c.from.ensures c.from-2.ensures c.abs_diff-missing.ensures in
    rw c.split.view_is at (IsCrossing-same _ c.split.invariant _ _ apart missing c.if-apart-eq0.true)

pub returns-else-apart-eq0 : goal.returns-else-apart-eq0
returns-else-apart-eq0 = crossing
