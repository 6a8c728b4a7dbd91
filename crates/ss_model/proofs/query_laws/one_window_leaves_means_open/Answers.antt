use Rattle.ss_model.proofs.OpenMeanLemmas.{open-by_one}
use Rattle.ss_model.proofs.query_laws.one_window_leaves_means_open.Goals as goal

pub returns : goal.returns
returns c = open-by_one
