use Rattle.ss_targets.proofs.LengthLemmas.{lengths_of-positive, lengths_of-never_fall}
use Rattle.ss_targets.proofs.target_laws.lengths_of_a_target_never_fall.Goals as goal

pub returns-clause-positive : goal.returns-clause-positive
returns-clause-positive c = lengths_of-positive

pub returns-clause-rising : goal.returns-clause-rising
returns-clause-rising c = lengths_of-never_fall
