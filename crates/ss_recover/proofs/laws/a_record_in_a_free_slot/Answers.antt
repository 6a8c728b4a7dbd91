use Rattle.ss_parts.proofs.PutLemmas.{occupied-free}
use Rattle.ss_recover.proofs.laws.a_record_in_a_free_slot.Goals as goal

pub returns : goal.returns
returns c = occupied-free
