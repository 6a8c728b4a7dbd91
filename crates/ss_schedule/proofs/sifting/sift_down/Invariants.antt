use Rattle.std.proofs.Common.{◌-◌, length}
use Rattle.ss_schedule.specs.Held.{AreInHeapBut, IsBelowParent, fit_at}
use Rattle.ss_schedule.proofs.sifting.sift_down.Given as goal

abbrev pub invariant-loop-index : goal.invariant-loop-index
invariant-loop-index l = record {
  hole : AreInHeapBut l.keys l.heap l.positions l.index;
  below : IsBelowParent (fit_at l.keys l.heap) l.index;
}

abbrev pub decreases-loop-index : goal.decreases-loop-index
decreases-loop-index l = length l.heap - l.index
