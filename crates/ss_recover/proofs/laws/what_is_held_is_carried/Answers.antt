use Rattle.ss_recover.proofs.HeldLemmas.{carried-AreHeld}
use Rattle.ss_recover.proofs.laws.what_is_held_is_carried.Goals as goal

pub returns : goal.returns
returns c = carried-AreHeld
