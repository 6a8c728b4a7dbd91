use Rattle.ss_program.proofs.Common.{ap}
use Rattle.ss_promises.proofs.AnewLemmas.{given_to-anew}
use Rattle.ss_promises.proofs.name_laws.created_streams_begin_anew.Goals as goal

pub returns-clause-values : goal.returns-clause-values
returns-clause-values c before rest name params origin = ap (λ given. given.plain) (given_to-anew before rest name params origin)

pub returns-clause-landmarks : goal.returns-clause-landmarks
returns-clause-landmarks c before rest name params origin = ap (λ given. given.landmarks) (given_to-anew before rest name params origin)
