use Rattle.ss_outside.specs.Disk.{OfContent}
use Rattle.ss_outside.specs.MemDisk.{view_of}
use Rattle.ss_journal.specs.Kept.{IsKept, IsRunning}
use Rattle.test_disk.proofs.cached.rows.are_found.Given as goal

abbrev pub invariant-loop-fill : goal.invariant-loop-fill
invariant-loop-fill l =
    record {
      running : IsRunning l.journal;
      one_disk : OfContent (view_of l.disk) (IsKept l.journal);
    }
