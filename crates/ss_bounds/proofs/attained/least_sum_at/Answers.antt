use Rattle.ss_bounds.proofs.AttainedLemmas.{least_sum_at-is}
use Rattle.ss_bounds.proofs.attained.least_sum_at.Goals as goal

pub returns : goal.returns
returns c = least_sum_at-is c.args.split _ _ _ c.count_bounds-fewest.ensures c.first_least.ensures
