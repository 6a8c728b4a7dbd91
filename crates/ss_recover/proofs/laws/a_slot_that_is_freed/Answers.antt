use Rattle.ss_parts.proofs.PutLemmas.{occupied-freed}
use Rattle.ss_recover.proofs.laws.a_slot_that_is_freed.Goals as goal

pub returns : goal.returns
returns c found put was rest is moved = occupied-freed found put was rest moved is
