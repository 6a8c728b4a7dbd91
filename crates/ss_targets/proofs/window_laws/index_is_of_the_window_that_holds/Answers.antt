use Rattle.ss_targets.proofs.WindowingLemmas.{window_index-holds}
use Rattle.ss_targets.proofs.window_laws.index_is_of_the_window_that_holds.Goals as goal

pub returns : goal.returns
returns c = window_index-holds
