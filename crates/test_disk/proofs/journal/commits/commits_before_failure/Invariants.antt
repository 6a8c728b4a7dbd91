use Rattle.ss_outside.specs.Disk.{OfContent}
use Rattle.ss_journal.specs.Kept.{IsKept, IsSealed, IsSettled}
use Rattle.test_disk.proofs.journal.commits.commits_before_failure.Given as goal

abbrev pub invariant-loop-k : goal.invariant-loop-k
invariant-loop-k g l = IsSettled l.journal × IsSealed l.journal × (OfContent (g.D.Disk.seen l.disk) (IsKept l.journal))
