use Rattle.ss_recover.proofs.DroppedMaps.{carried-goes}
use Rattle.ss_recover.proofs.laws.a_dropped_record_that_goes.Goals as goal

pub returns : goal.returns
returns c = carried-goes
