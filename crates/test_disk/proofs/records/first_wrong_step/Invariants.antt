use Rattle.ss_outside.specs.Disk.{OfContent}
use Rattle.ss_records.specs.Kept.{AreAtRest, AreKept}
use Rattle.test_disk.proofs.records.first_wrong_step.Given as goal

abbrev pub invariant-steps : goal.invariant-steps
invariant-steps g l =
    record {
      settled : AreAtRest l.records;
      one_disk : OfContent (g.D.Disk.seen l.disk) (AreKept l.records);
    }
