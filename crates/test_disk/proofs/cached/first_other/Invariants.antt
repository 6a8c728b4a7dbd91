use Rattle.ss_outside.specs.Disk.{OfContent}
use Rattle.ss_journal.specs.Kept.{IsKept, IsSettled}
use Rattle.ss_records.specs.Kept.{AreAtRest, AreKept}
use Rattle.test_disk.proofs.cached.first_other.Given as goal

abbrev pub invariant-loop-k : goal.invariant-loop-k
invariant-loop-k g l =
    record {
      settled : AreAtRest l.records × IsSettled l.journal;
      one_disk : OfContent (g.D.Disk.seen l.disk) (AreKept l.records);
      other_disk : OfContent (g.D.Disk.seen l.other) (IsKept l.journal);
    }
