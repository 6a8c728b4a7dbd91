use Rattle.ss_store.proofs.Extents.{length-kept, length-stands}
use Rattle.ss_store.proofs.laws.files_are_as_long_as_their_slots.Goals as goal

pub returns-clause-image : goal.returns-clause-image
returns-clause-image c = length-stands

pub returns-clause-kept : goal.returns-clause-kept
returns-clause-kept c = length-kept
