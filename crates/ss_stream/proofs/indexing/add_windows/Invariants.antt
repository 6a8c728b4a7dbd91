use Rattle.ss_stream.proofs.Common.{◌-◌, length, index_of}
use Rattle.ss_stream.proofs.indexing.add_windows.Given as goal
use Rattle.ss_stream.proofs.KeyedWindows.{IsKeyedUpTo}

abbrev pub invariant-loop-next : goal.invariant-loop-next
invariant-loop-next g l = IsKeyedUpTo l.n l.part l.index l.at

abbrev pub decreases-loop-next : goal.decreases-loop-next
decreases-loop-next g l = length l.part.line.entries - index_of l.part.line.entries l.at
