use Rattle.ss_outside.specs.Disk.{OfContent}
use Rattle.ss_journal.specs.Kept.{IsKept, IsRunning}
use Rattle.bench_calls.proofs.journal.read_many.Given as goal

abbrev pub invariant-loop-k : goal.invariant-loop-k
invariant-loop-k g l = record {
  running : IsRunning l.journal;
  one_disk : OfContent (g.D.Disk.seen l.disk) (IsKept l.journal);
}
