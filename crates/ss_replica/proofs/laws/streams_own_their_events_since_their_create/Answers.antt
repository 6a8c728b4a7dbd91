use Rattle.ss_replica.proofs.OwnLemmas.{length-own, own-none, own-some}
use Rattle.ss_replica.proofs.laws.streams_own_their_events_since_their_create.Goals as goal

pub returns-clause-some : goal.returns-clause-some
returns-clause-some c = own-some

pub returns-clause-none : goal.returns-clause-none
returns-clause-none c = own-none

pub returns-clause-count : goal.returns-clause-count
returns-clause-count c = length-own
