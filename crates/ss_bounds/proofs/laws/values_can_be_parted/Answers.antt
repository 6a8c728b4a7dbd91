use Rattle.std.proofs.Common.{arith}
use Rattle.ss_bounds.proofs.AttainedLemmas.{greatest_count-few}
use Rattle.ss_bounds.proofs.PartedLemmas.{low_sum-high_sum, CanBeParted-low_sum, CanBeParted-high_sum}
use Rattle.ss_bounds.proofs.laws.values_can_be_parted.Goals as goal

pub returns-clause-order : goal.returns-clause-order
returns-clause-order c = λ s x split most. low_sum-high_sum s split x (omega (arith, greatest_count-few s split))

pub returns-clause-least : goal.returns-clause-least
returns-clause-least c = λ s x split most. CanBeParted-low_sum s split x (omega (arith, greatest_count-few s split))

pub returns-clause-greatest : goal.returns-clause-greatest
returns-clause-greatest c = λ s x split most. CanBeParted-high_sum s split x (omega (arith, greatest_count-few s split))
