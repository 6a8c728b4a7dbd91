use Rattle.std.proofs.Common.{◌≡◌}
use Rattle.ss_outside.specs.Disk.{OfContent}
use Rattle.ss_journal.specs.Kept.{IsKept}
use Rattle.test_disk.proofs.journal.files.has.Given as goal

abbrev pub invariant-loop-slot : goal.invariant-loop-slot
invariant-loop-slot g l =
    record {
      journal : l.journal ≡ l.fn.journal;
      one_disk : OfContent (g.D.Disk.seen l.disk) (IsKept l.journal);
    }
