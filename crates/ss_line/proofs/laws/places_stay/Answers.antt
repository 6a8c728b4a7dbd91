use Rattle.ss_line.proofs.PlaceLemmas.{entry_at-push, entry_at-set_other, entry_at-remove_other, entry_at-stands}
use Rattle.ss_line.proofs.laws.places_stay.Goals as goal

pub returns-clause-pushed : goal.returns-clause-pushed
returns-clause-pushed c = entry_at-push

pub returns-clause-set : goal.returns-clause-set
returns-clause-set c entries at other e differ = entry_at-set_other entries at other e differ

pub returns-clause-cut_out : goal.returns-clause-cut_out
returns-clause-cut_out c = entry_at-remove_other

pub returns-clause-stands : goal.returns-clause-stands
returns-clause-stands c = entry_at-stands
