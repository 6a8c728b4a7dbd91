use Rattle.ss_recover.proofs.RebuiltRecords.{IsState-carries}
use Rattle.ss_recover.proofs.laws.what_is_carried_is_a_state.Goals as goal

pub returns : goal.returns
returns c = IsState-carries
