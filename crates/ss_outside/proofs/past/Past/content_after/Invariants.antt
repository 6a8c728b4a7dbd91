use Rattle.std.proofs.Common.{◌≡◌, take}
use Rattle.ss_outside.specs.MemDisk.{fresh, replay}
use Rattle.ss_outside.proofs.past.Past.content_after.Given as goal

abbrev pub invariant-loop-change : goal.invariant-loop-change
invariant-loop-change l = l.content.items ≡ (replay (fresh l.start) (take l.change-index (take l.calls l.self.calls))).content
