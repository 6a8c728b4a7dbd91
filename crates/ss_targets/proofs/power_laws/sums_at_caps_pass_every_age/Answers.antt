use Rattle.ss_targets.proofs.SumLemmas.{lt-power_sum-cap}
use Rattle.ss_targets.proofs.power_laws.sums_at_caps_pass_every_age.Goals as goal

pub returns : goal.returns
returns c = lt-power_sum-cap
