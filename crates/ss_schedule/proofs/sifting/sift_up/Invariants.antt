use Rattle.ss_schedule.specs.Held.{AreInHeapBut}
use Rattle.ss_schedule.proofs.sifting.sift_up.Given as goal

abbrev pub invariant-loop-index : goal.invariant-loop-index
invariant-loop-index l = record {
  hole : AreInHeapBut l.keys l.heap l.positions l.index;
}

abbrev pub decreases-loop-index : goal.decreases-loop-index
decreases-loop-index l = l.index
