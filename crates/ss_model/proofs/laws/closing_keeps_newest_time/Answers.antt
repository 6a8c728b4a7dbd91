use Rattle.ss_model.proofs.Closes.{newest_time-closed}
use Rattle.ss_model.proofs.laws.closing_keeps_newest_time.Goals as goal

pub returns : goal.returns
returns c = newest_time-closed
