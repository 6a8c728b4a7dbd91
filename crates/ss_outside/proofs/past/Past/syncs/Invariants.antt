use Rattle.std.proofs.Common.{◌≡◌, ◌≤◌, take}
use Rattle.ss_outside.specs.MemDisk.{good_syncs}
use Rattle.ss_outside.proofs.past.Past.syncs.Given as goal

-- the good syncs among the calls so far, of which there are no more than calls
abbrev pub invariant-loop-change : goal.invariant-loop-change
invariant-loop-change l = (l.syncs ≡ good_syncs (take l.change-index l.self.calls)) × (l.syncs ≤ l.change-index)
