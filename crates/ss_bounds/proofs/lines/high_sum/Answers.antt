use Rattle.std.proofs.Common.{ap, arith, ◌∙◌}
use Rattle.ss_bounds.specs.Split.{SplitFigures, high_sum}
use Rattle.ss_bounds.proofs.BendLemmas.{computed-high_sum, difference-fits}
use Rattle.ss_bounds.proofs.lines.high_sum.Goals as goal

pub overflow_sub-result : goal.overflow_sub-result
overflow_sub-result c =
    let same = ap (λ (s : SplitFigures). s.count) c.split.view_is in
    let rest = rw (← c.split.view_is) at c.low_sum.ensures in
    difference-fits _ c.split.invariant c.args.x (omega arith) c.low_sum.result rest

pub returns : goal.returns
returns c =
    let same = ap (λ (s : SplitFigures). s.count) c.split.view_is in
    let rest = rw (← c.split.view_is) at c.low_sum.ensures in
    computed-high_sum _ c.split.invariant c.args.x (omega arith) c.low_sum.result rest ∙ ap (λ s. high_sum s c.args.x) c.split.view_is
