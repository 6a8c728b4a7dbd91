use Rattle.ss_journal.proofs.Common.{◌≤◌, ◌-◌, Step, fine}
use Rattle.ss_journal.proofs.WriteSteps.{BlankTo}
use Rattle.ss_journal.proofs.writing.write_zeros.Given as goal

abbrev pub invariant-loop-from : goal.invariant-loop-from
invariant-loop-from g l = record {
  low : l.fn.at ≤ l.from;
  high : l.from ≤ l.end;
  step : Step fine (g.D.Disk.seen l.fn.disk) (g.D.Disk.seen l.disk) (BlankTo l.fn.at l.from l.end);
}

abbrev pub decreases-loop-from : goal.decreases-loop-from
decreases-loop-from g l = l.end - l.from
