use Rattle.ss_laws.proofs.DamageLemmas.{record_burst, record_odd, record_two}
use Rattle.ss_laws.proofs.damage_laws.damaged_records_are_told.Goals as goal

pub returns : goal.returns
returns c = record { burst = record_burst; two = record_two; odd = record_odd }
