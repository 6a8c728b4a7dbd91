use Rattle.ss_summary.proofs.FilterLemmas.{union_assoc}
use Rattle.ss_summary.proofs.laws.uniting_is_associative.Goals as goal

pub returns : goal.returns
returns c = union_assoc
