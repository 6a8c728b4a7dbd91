use Rattle.std.proofs.Common.{◌-◌, ◌≤◌, length, ◌≡◌}
use Rattle.ss_catalog.specs.Series.{row_count}
use Rattle.libsummarystore.specs.Held.{IsReady}
use Rattle.libsummarystore.proofs.held.Held.rows.Given as goal

abbrev pub invariant-loop-k : goal.invariant-loop-k
invariant-loop-k g l =
    IsReady g.D.Disk.seen l.self × (l.k ≤ l.shown) × (l.shown ≤ length l.rows) × (l.shown ≤ l.count) × (l.count ≡ row_count l.series)

abbrev pub decreases-loop-k : goal.decreases-loop-k
decreases-loop-k g l = l.shown - l.k
