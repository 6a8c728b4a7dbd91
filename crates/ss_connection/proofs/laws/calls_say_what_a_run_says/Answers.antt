use Rattle.ss_connection.proofs.LawLemmas.{reported}
use Rattle.ss_connection.proofs.laws.calls_say_what_a_run_says.Goals as goal

pub returns : goal.returns
returns g c = reported g.D.Disk.seen g.met.D.Disk.knows_now
