use Rattle.ss_model.proofs.DecayLemmas.{IsWithinTarget-windows}
use Rattle.ss_model.proofs.decay_laws.no_window_outgrows_its_target.Goals as goal

pub returns : goal.returns
returns c = IsWithinTarget-windows
