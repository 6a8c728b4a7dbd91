use Rattle.ss_outside.specs.Disk.{OfContent}
use Rattle.ss_journal.specs.Kept.{IsKept, IsSettled}
use Rattle.test_disk.proofs.journal.groups.take_first.Given as goal

abbrev pub invariant-loop-k : goal.invariant-loop-k
invariant-loop-k g l = IsSettled l.journal × (OfContent (g.D.Disk.seen l.disk) (IsKept l.journal))
