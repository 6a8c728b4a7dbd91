use Rattle.ss_connection.proofs.BatchLemmas.{batch-held}
use Rattle.ss_connection.proofs.laws.batches_hold_their_events.Goals as goal

pub returns : goal.returns
returns g c = batch-held g.D.Disk.seen g.met.D.Disk.knows_now
