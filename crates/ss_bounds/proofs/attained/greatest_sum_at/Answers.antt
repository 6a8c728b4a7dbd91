use Rattle.std.proofs.Common.{ap, sym, ◌∙◌}
use Rattle.ss_bounds.specs.Split.{count_interval}
use Rattle.ss_bounds.specs.Attained.{greatest_sum_at}
use Rattle.ss_bounds.proofs.AttainedLemmas.{greatest_sum_at-is}
use Rattle.ss_bounds.proofs.attained.greatest_sum_at.Goals as goal

pub returns : goal.returns
returns c =
    let counts = c.count_bounds-fewest.ensures ∙ ap count_interval (sym c.split.view_is) in
    let last = rw (← c.split.view_is) at c.last_least.ensures in
    greatest_sum_at-is _ c.split.invariant _ _ _ counts last ∙ ap greatest_sum_at c.split.view_is
