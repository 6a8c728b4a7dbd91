use Rattle.ss_outside.specs.Disk.{OfContent}
use Rattle.ss_journal.specs.Kept.{IsKept, IsSealed, IsSettled}
use Rattle.bench_calls.proofs.journal.commit_many.Given as goal

abbrev pub invariant-loop-k : goal.invariant-loop-k
invariant-loop-k g l = record {
  settled : IsSettled l.journal;
  sealed : IsSealed l.journal;
  one_disk : OfContent (g.D.Disk.seen l.disk) (IsKept l.journal);
}
