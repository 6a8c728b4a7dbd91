use Rattle.ss_model.proofs.Incremental.{windows_push}
use Rattle.ss_model.proofs.laws.incremental_is_from_scratch.Goals as goal

pub returns : goal.returns
returns c = windows_push
