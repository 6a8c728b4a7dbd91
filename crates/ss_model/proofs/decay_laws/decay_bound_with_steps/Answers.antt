use Rattle.ss_model.proofs.DecayLemmas.{length-closed_met, length-closed_within, length-windows_met}
use Rattle.ss_model.proofs.decay_laws.decay_bound_with_steps.Goals as goal

pub returns : goal.returns
returns c = record { of_values = length-windows_met; of_closed_within = length-closed_within; of_closed = length-closed_met }
