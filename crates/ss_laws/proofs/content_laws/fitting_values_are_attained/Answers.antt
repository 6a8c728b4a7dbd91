use Rattle.ss_laws.proofs.ContentsLemmas.{IsAttained-named, IsAttained-state}
use Rattle.ss_laws.proofs.content_laws.fitting_values_are_attained.Goals as goal

pub returns-clause-each : goal.returns-clause-each
returns-clause-each c = IsAttained-state

pub returns-clause-named : goal.returns-clause-named
returns-clause-named c = IsAttained-named
