use Rattle.ss_bounds.proofs.MeanWidthLemmas.{mean_interval-IsNoWider}
use Rattle.ss_bounds.proofs.mean_laws.means_are_no_wider_than_sums.Goals as goal

pub returns : goal.returns
returns c = mean_interval-IsNoWider
