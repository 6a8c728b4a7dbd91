use Rattle.ss_targets.proofs.PowerLemmas.{cut-power_sum}
use Rattle.ss_targets.proofs.power_laws.groups_start_at_power_sums.Goals as goal

pub returns : goal.returns
returns c = cut-power_sum
