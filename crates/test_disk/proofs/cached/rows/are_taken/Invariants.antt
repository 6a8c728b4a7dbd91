use Rattle.ss_outside.specs.Disk.{OfContent}
use Rattle.ss_outside.specs.MemDisk.{view_of}
use Rattle.ss_journal.specs.Kept.{IsSettled}
use Rattle.ss_records.specs.Kept.{AreKept}
use Rattle.test_disk.proofs.cached.rows.are_taken.Given as goal

abbrev pub invariant-loop-step : goal.invariant-loop-step
invariant-loop-step l =
    record {
      settled : IsSettled l.records.journal;
      one_disk : OfContent (view_of l.disk) (AreKept l.records);
    }
