use Rattle.ss_model.proofs.Stretches.{taken-windows}
use Rattle.ss_model.proofs.laws.windows_count_values.Goals as goal

pub returns : goal.returns
returns c = taken-windows
