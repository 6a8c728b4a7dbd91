use Rattle.ss_model.proofs.DecayLemmas.{length-windows, length-closed}
use Rattle.ss_model.proofs.decay_laws.decay_bound.Goals as goal

pub returns : goal.returns
returns c = record { of_values = length-windows; of_closed = length-closed }
