use Rattle.ss_outside.specs.Disk.{OfContent}
use Rattle.ss_journal.specs.Kept.{IsSettled}
use Rattle.ss_records.specs.Kept.{AreKept}
use Rattle.bench_calls.proofs.records.filled.Given as goal

abbrev pub invariant-loop-slot : goal.invariant-loop-slot
invariant-loop-slot g l = record {
  settled : IsSettled l.records.journal;
  one_disk : OfContent (g.D.Disk.seen l.disk) (AreKept l.records);
}
