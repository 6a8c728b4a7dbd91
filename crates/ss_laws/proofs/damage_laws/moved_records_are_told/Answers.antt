use Rattle.ss_laws.proofs.DamageLemmas.{record_moved}
use Rattle.ss_laws.proofs.damage_laws.moved_records_are_told.Goals as goal

pub returns : goal.returns
returns c = record_moved
