use Rattle.ss_laws.proofs.SizeLemmas.{slots-few}
use Rattle.ss_laws.proofs.size_laws.slots_are_few.Goals as goal

pub returns : goal.returns
returns c = slots-few
