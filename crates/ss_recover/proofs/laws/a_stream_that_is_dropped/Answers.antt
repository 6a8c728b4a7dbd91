use Rattle.ss_recover.proofs.DroppedMaps.{carried-dropped}
use Rattle.ss_recover.proofs.laws.a_stream_that_is_dropped.Goals as goal

pub returns : goal.returns
returns c = carried-dropped
