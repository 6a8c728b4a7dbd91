use Rattle.ss_laws.proofs.DamageLemmas.{entry_burst, entry_odd, entry_two}
use Rattle.ss_laws.proofs.damage_laws.damaged_entries_are_told.Goals as goal

pub returns : goal.returns
returns c = record { burst = entry_burst; two = entry_two; odd = entry_odd }
