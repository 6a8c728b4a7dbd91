use Rattle.ss_stream.proofs.Common.{◌-◌, length, index_of}
use Rattle.ss_stream.proofs.dropping.push_window_slots.Given as goal
use Rattle.ss_stream.proofs.WindowSlots.{HasSlotsUpTo}

abbrev pub invariant-loop-next : goal.invariant-loop-next
invariant-loop-next g l = HasSlotsUpTo l.fn.slots.items l.slots.items l.line.entries l.at

abbrev pub decreases-loop-next : goal.decreases-loop-next
decreases-loop-next g l = length l.line.entries - index_of l.line.entries l.at
