use Rattle.std.proofs.Common.{ap, arith, ◌∙◌}
use Rattle.ss_bounds.specs.Split.{SplitFigures, low_sum}
use Rattle.ss_bounds.proofs.Held.{computed-low_sum, computed-rest}
use Rattle.ss_bounds.proofs.lines.low_sum.Goals as goal

pub overflow_sub-split-inside-2 : goal.overflow_sub-split-inside-2
overflow_sub-split-inside-2 c =
    computed-rest _ c.split.invariant c.args.x _ _ c.from-3.ensures c.from-4.ensures

pub returns : goal.returns
returns c =
    let same = ap (λ (s : SplitFigures). s.count) c.split.view_is in
    computed-low_sum _ c.split.invariant c.args.x (omega arith) _ _ _ _ _ c.from.ensures c.from-2.ensures c.from-3.ensures c.from-4.ensures c.max.ensures.value
    ∙ ap (λ s. low_sum s c.args.x) c.split.view_is
