use Rattle.ss_recover.proofs.WholeSlots.{carried-same}
use Rattle.ss_parts.proofs.WholeMaps.{occupied-same}
use Rattle.ss_recover.proofs.laws.same_maps_carry_the_same.Goals as goal

pub returns-clause-occupied : goal.returns-clause-occupied
returns-clause-occupied c = occupied-same

pub returns-clause-carried : goal.returns-clause-carried
returns-clause-carried c = carried-same
