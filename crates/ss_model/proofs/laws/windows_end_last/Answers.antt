use Rattle.ss_model.proofs.Stretches.{newest_time-windows}
use Rattle.ss_model.proofs.laws.windows_end_last.Goals as goal

pub returns : goal.returns
returns c = newest_time-windows
