use Rattle.ss_outside.specs.Disk.{OfContent}
use Rattle.ss_journal.specs.Kept.{IsRunning}
use Rattle.ss_records.specs.Kept.{AreKept}
use Rattle.test_disk.proofs.cached.read_firsts.Given as goal

abbrev pub invariant-loop-page : goal.invariant-loop-page
invariant-loop-page g l =
    record {
      running : IsRunning l.records.journal;
      one_disk : OfContent (g.D.Disk.seen l.disk) (AreKept l.records);
    }
