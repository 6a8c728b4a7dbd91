use Rattle.ss_laws.proofs.RoomLemmas.{live-exp, live-power, live-takes}
use Rattle.ss_laws.proofs.room_laws.stores_are_small.Goals as goal

pub returns-clause-streams : goal.returns-clause-streams
returns-clause-streams c = live-takes

pub returns-clause-exp : goal.returns-clause-exp
returns-clause-exp c = live-exp

pub returns-clause-power : goal.returns-clause-power
returns-clause-power c = live-power
