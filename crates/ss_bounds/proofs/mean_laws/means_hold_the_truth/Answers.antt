use Rattle.ss_bounds.proofs.MeanTruthLemmas.{mean_interval-HoldsMean, mean_interval-known}
use Rattle.ss_bounds.proofs.TruthLemmas.{asked-MayHave}
use Rattle.ss_bounds.proofs.mean_laws.means_hold_the_truth.Goals as goal

pub returns-clause-windows : goal.returns-clause-windows
returns-clause-windows c = mean_interval-HoldsMean

pub returns-clause-values : goal.returns-clause-values
returns-clause-values c = asked-MayHave

pub returns-clause-known : goal.returns-clause-known
returns-clause-known c = mean_interval-known
