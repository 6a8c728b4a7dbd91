use Rattle.ss_outside.specs.Disk.{OfContent}
use Rattle.ss_journal.specs.Kept.{IsKept, IsRunning}
use Rattle.test_disk.proofs.journal.pages.is_page.Given as goal

abbrev pub invariant-loop-k : goal.invariant-loop-k
invariant-loop-k g l = IsRunning l.journal × (OfContent (g.D.Disk.seen l.disk) (IsKept l.journal))
