use Rattle.ss_recover.proofs.Common.{◌%◌, ◌-◌, ◌<◌, ◌≡◌, ◌≤◌, AreFoundBelow, AreGathered, FindsOut, fine, vec_capacity}
use Rattle.ss_outside.specs.Step.{Step}
use Rattle.ss_recover.proofs.gathering.gather.Given as goal

abbrev pub invariant-loop-slot : goal.invariant-loop-slot
invariant-loop-slot g l = record {
  within : l.slot ≤ l.end;
  first : l.slot < l.end → l.slot % 32 ≡ 0;
  gathered : AreGathered l.slot l.read;
  room : vec_capacity l.read.all ≡ l.end;
  journal : l.journal ≡ l.fn.journal;
  step : Step fine (g.D.Disk.seen l.fn.disk) (g.D.Disk.seen l.disk) (FindsOut (AreFoundBelow l.slot l.read));
}

abbrev pub decreases-loop-slot : goal.decreases-loop-slot
decreases-loop-slot g l = l.end - l.slot
