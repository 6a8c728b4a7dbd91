use Rattle.ss_store.proofs.Unformed.{Stands-unformed}
use Rattle.ss_store.proofs.laws.unformatted_files_stand_for_nothing.Goals as goal

pub returns : goal.returns
returns c = Stands-unformed
