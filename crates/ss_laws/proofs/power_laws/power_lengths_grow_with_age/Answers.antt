use Rattle.ss_laws.proofs.PowerMeasures.{length-power, length-power_newest}
use Rattle.ss_laws.proofs.power_laws.power_lengths_grow_with_age.Goals as goal

pub returns : goal.returns
returns c = record { curve = length-power; newest = length-power_newest }
