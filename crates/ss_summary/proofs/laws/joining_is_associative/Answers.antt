use Rattle.ss_summary.proofs.SummaryLemmas.{joined_assoc}
use Rattle.ss_summary.proofs.laws.joining_is_associative.Goals as goal

pub returns : goal.returns
returns c = joined_assoc
