use Rattle.ss_model.proofs.DecayLemmas.{le_cut-cover, cover_le}
use Rattle.ss_model.proofs.decay_laws.cover_is_least.Goals as goal

pub returns : goal.returns
returns c = record { enough = le_cut-cover; least = cover_le }
