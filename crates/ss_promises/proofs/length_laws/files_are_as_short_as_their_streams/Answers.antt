use Rattle.ss_promises.proofs.LengthLemmas.{short-exp, short-power, short-streams, uses-empty}
use Rattle.ss_promises.proofs.length_laws.files_are_as_short_as_their_streams.Goals as goal

pub returns-clause-streams : goal.returns-clause-streams
returns-clause-streams g c = short-streams g.D.Disk.seen g.met.D.Disk.knows_now

pub returns-clause-exp : goal.returns-clause-exp
returns-clause-exp g c = short-exp g.D.Disk.seen g.met.D.Disk.knows_now

pub returns-clause-power : goal.returns-clause-power
returns-clause-power g c = short-power g.D.Disk.seen g.met.D.Disk.knows_now

pub returns-clause-empty : goal.returns-clause-empty
returns-clause-empty g c = uses-empty
