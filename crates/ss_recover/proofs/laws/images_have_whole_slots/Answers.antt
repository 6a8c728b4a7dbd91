use Rattle.ss_parts.proofs.WholeMaps.{HasWholeSlots-StandsFor}
use Rattle.ss_recover.proofs.laws.images_have_whole_slots.Goals as goal

pub returns : goal.returns
returns c = HasWholeSlots-StandsFor
