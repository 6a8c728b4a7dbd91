use Rattle.ss_line.proofs.PlaceLemmas.{entry_at-set, gone-remove}
use Rattle.ss_line.proofs.laws.places_change.Goals as goal

pub returns-clause-set : goal.returns-clause-set
returns-clause-set c = entry_at-set

pub returns-clause-cut_out : goal.returns-clause-cut_out
returns-clause-cut_out c = gone-remove
