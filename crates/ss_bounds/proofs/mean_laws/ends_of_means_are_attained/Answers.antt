use Rattle.ss_bounds.proofs.LowestLemmas.{IsLowest-lowest}
use Rattle.ss_bounds.proofs.MeanTruthLemmas.{mean_interval-AreAttained}
use Rattle.ss_bounds.proofs.mean_laws.ends_of_means_are_attained.Goals as goal

pub returns-clause-ends : goal.returns-clause-ends
returns-clause-ends c = mean_interval-AreAttained

pub returns-clause-lowest : goal.returns-clause-lowest
returns-clause-lowest c = IsLowest-lowest
