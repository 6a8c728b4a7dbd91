use Rattle.ss_laws.proofs.CutLemmas.{count-width, count-width-state}
use Rattle.ss_laws.proofs.width_laws.counts_are_as_wide_as_their_ages.Goals as goal

pub returns : goal.returns
returns c = record { of_values = count-width; of_histories = count-width-state }
