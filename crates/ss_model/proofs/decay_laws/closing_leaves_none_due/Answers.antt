use Rattle.ss_model.proofs.DecayLemmas.{NoneIsDue-closed}
use Rattle.ss_model.proofs.decay_laws.closing_leaves_none_due.Goals as goal

pub returns : goal.returns
returns c = NoneIsDue-closed
