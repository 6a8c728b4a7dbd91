use Rattle.ss_targets.specs.PowerLaws.{power_length-positive, power_length-never_falls}
use Rattle.ss_targets.proofs.power_laws.power_lengths_never_fall.Goals as goal

pub returns-clause-positive : goal.returns-clause-positive
returns-clause-positive c p q r s = power_length-positive

pub returns-clause-rising : goal.returns-clause-rising
returns-clause-rising c p q r s = power_length-never_falls
