use Rattle.ss_stream.proofs.Common.{◌+◌, ◌*◌, ◌≤◌, length}
use Rattle.ss_stream.proofs.held.HeldStream.stage_joins.Given as goal
use Rattle.ss_stream.proofs.Wholes.{IsClosing}

abbrev pub invariant-loop-pair : goal.invariant-loop-pair
invariant-loop-pair g l =
    IsClosing (g.D.Disk.seen l.fn.disk) (g.D.Disk.seen l.disk) l.fn.records l.records l.fn.self.part l.self
    × (l.steps + 11 * length l.self.part.line.entries ≤ l.fn.steps + 11 * length l.fn.self.part.line.entries + 1)

abbrev pub decreases-loop-pair : goal.decreases-loop-pair
decreases-loop-pair g l = length l.self.part.line.entries
