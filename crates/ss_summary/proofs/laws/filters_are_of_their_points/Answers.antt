use Rattle.ss_summary.proofs.FilterLemmas.{has_bit-summary_of}
use Rattle.ss_summary.proofs.laws.filters_are_of_their_points.Goals as goal

pub returns : goal.returns
returns c = has_bit-summary_of
