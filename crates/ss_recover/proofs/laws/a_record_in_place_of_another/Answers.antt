use Rattle.ss_parts.proofs.PutLemmas.{occupied-replaced}
use Rattle.ss_recover.proofs.laws.a_record_in_place_of_another.Goals as goal

pub returns : goal.returns
returns c found put was r rest is moved = occupied-replaced found put was rest moved r is
