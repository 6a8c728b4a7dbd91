use Rattle.ss_bounds.proofs.AttainedLemmas.{least_sum_at-first, greatest_sum_at-first}
use Rattle.ss_bounds.proofs.laws.ends_of_sums_are_attained.Goals as goal

pub returns-clause-least : goal.returns-clause-least
returns-clause-least c = λ s split. (least_sum_at-first s split).1

pub returns-clause-least_first : goal.returns-clause-least_first
returns-clause-least_first c = λ s split. (least_sum_at-first s split).0

pub returns-clause-greatest : goal.returns-clause-greatest
returns-clause-greatest c = λ s split. (greatest_sum_at-first s split).1

pub returns-clause-greatest_first : goal.returns-clause-greatest_first
returns-clause-greatest_first c = λ s split. (greatest_sum_at-first s split).0
