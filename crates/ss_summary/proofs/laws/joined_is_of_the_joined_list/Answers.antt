use Rattle.ss_summary.proofs.SummaryLemmas.{joined-summary_of}
use Rattle.ss_summary.proofs.laws.joined_is_of_the_joined_list.Goals as goal

pub returns : goal.returns
returns c = joined-summary_of
