use Rattle.ss_outside.specs.Disk.{OfContent}
use Rattle.ss_outside.specs.MemDisk.{view_of}
use Rattle.ss_journal.specs.Kept.{IsRunning}
use Rattle.ss_records.specs.Kept.{AreKept}
use Rattle.test_disk.proofs.cached.first_wrong_round.Given as goal

abbrev pub invariant-loop-k : goal.invariant-loop-k
invariant-loop-k l =
    record {
      running : IsRunning l.records.journal;
      one_disk : OfContent (view_of l.disk) (AreKept l.records);
    }
