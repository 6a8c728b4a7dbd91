use Rattle.ss_laws.proofs.SumLemmas.{sum-width, sum-width-state}
use Rattle.ss_laws.proofs.width_laws.sums_are_as_wide_as_their_values.Goals as goal

pub returns : goal.returns
returns c = record { of_window = sum-width; of_histories = sum-width-state }
