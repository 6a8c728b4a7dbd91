use Rattle.ss_model.proofs.Closes.{taken-closed}
use Rattle.ss_model.proofs.laws.closing_keeps_taken.Goals as goal

pub returns : goal.returns
returns c = taken-closed
