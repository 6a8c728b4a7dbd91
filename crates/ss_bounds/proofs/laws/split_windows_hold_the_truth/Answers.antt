use Rattle.ss_bounds.proofs.TruthLemmas.{asked-MayLieThere, asked-sum}
use Rattle.ss_bounds.proofs.laws.split_windows_hold_the_truth.Goals as goal

pub returns-clause-values : goal.returns-clause-values
returns-clause-values c = asked-MayLieThere

pub returns-clause-sum : goal.returns-clause-sum
returns-clause-sum c = asked-sum
