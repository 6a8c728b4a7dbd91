use Rattle.ss_store.proofs.ReadRefusals.{refuses_reading_held-is, refuses_values_held-is}
use Rattle.ss_store.proofs.laws.reading_refusals_of_what_is_held.Goals as goal

pub returns-clause-name : goal.returns-clause-name
returns-clause-name c = refuses_reading_held-is

pub returns-clause-values : goal.returns-clause-values
returns-clause-values c = refuses_values_held-is
