use Rattle.ss_targets.specs.ExpLaws.{exp_length-positive, exp_length-never_falls}
use Rattle.ss_targets.proofs.window_laws.exp_lengths_never_fall.Goals as goal

pub returns-clause-positive : goal.returns-clause-positive
returns-clause-positive c b r s = exp_length-positive

pub returns-clause-rising : goal.returns-clause-rising
returns-clause-rising c b r s = exp_length-never_falls
