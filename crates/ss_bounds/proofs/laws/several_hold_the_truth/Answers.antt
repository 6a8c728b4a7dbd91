use Rattle.ss_bounds.proofs.SeveralLemmas.{HoldsCount-sum, HoldsSum-total, HoldsExtreme-least, HoldsExtreme-greatest}
use Rattle.ss_bounds.proofs.laws.several_hold_the_truth.Goals as goal

pub returns-clause-counts : goal.returns-clause-counts
returns-clause-counts c = HoldsCount-sum

pub returns-clause-sums : goal.returns-clause-sums
returns-clause-sums c = HoldsSum-total

pub returns-clause-least : goal.returns-clause-least
returns-clause-least c = HoldsExtreme-least

pub returns-clause-greatest : goal.returns-clause-greatest
returns-clause-greatest c = HoldsExtreme-greatest
