use Rattle.ss_laws.proofs.PowerMeasures.{cover-power}
use Rattle.ss_laws.proofs.power_laws.power_windows_are_few.Goals as goal

pub returns : goal.returns
returns c = cover-power
