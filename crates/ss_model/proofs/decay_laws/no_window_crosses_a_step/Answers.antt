use Rattle.ss_model.proofs.DecayLemmas.{IsInStep-windows}
use Rattle.ss_model.proofs.RuleLemmas.{IsInStep-closed}
use Rattle.ss_model.proofs.decay_laws.no_window_crosses_a_step.Goals as goal

pub returns : goal.returns
returns c = record { of_values = IsInStep-windows; of_closed = IsInStep-closed }
