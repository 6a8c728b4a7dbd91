use Rattle.ss_connection.proofs.LawLemmas.{kept, stopped}
use Rattle.ss_connection.proofs.laws.answered_calls_stay.Goals as goal

pub returns-clause-answered : goal.returns-clause-answered
returns-clause-answered g c = kept g.D.Disk.seen g.met.D.Disk.knows_now

pub returns-clause-stopped : goal.returns-clause-stopped
returns-clause-stopped g c = stopped g.D.Disk.seen g.met.D.Disk.knows_now
