use Rattle.ss_outside.specs.Disk.{OfContent}
use Rattle.ss_records.specs.Kept.{AreAtRest, AreKept}
use Rattle.test_disk.proofs.records.take.Given as goal

abbrev pub invariant-loop-fill : goal.invariant-loop-fill
invariant-loop-fill g l =
    record {
      settled : AreAtRest l.records;
      one_disk : OfContent (g.D.Disk.seen l.disk) (AreKept l.records);
    }
