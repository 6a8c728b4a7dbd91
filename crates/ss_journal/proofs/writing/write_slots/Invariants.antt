use Rattle.ss_journal.proofs.Common.{◌≤◌, ◌-◌, length, SyncsAtMost, Step, fine}
use Rattle.ss_journal.proofs.WriteSteps.{WrittenTo}
use Rattle.ss_journal.proofs.writing.write_slots.Given as goal

abbrev pub invariant-loop-from : goal.invariant-loop-from
invariant-loop-from g l = record {
  high : l.from ≤ length l.puts;
  step : Step fine (g.D.Disk.seen l.fn.disk) (g.D.Disk.seen l.disk) (WrittenTo l.kind l.puts l.from);
  syncs : Step fine (g.D.Disk.seen l.fn.disk) (g.D.Disk.seen l.disk) (SyncsAtMost 0);
}

abbrev pub decreases-loop-from : goal.decreases-loop-from
decreases-loop-from g l = length l.puts - l.from
