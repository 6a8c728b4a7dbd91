use Rattle.std.proofs.Common.{take, drop}
use Rattle.ss_outside.specs.MemDisk.{fresh, replay}
use Rattle.ss_outside.specs.Choice.{IsFilled}
use Rattle.ss_outside.proofs.past.Past.fill.Given as goal

abbrev pub invariant-loop-change : goal.invariant-loop-change
invariant-loop-change l =
    IsFilled (replay (fresh l.initial.image.items) (take l.change-index (drop l.synced l.self.calls))) l.byte l.image.items
