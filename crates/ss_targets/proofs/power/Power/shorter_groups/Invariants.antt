use Rattle.std.proofs.Common.{ℕ, ◌+◌, ◌-◌, ◌<◌, ◌≤◌}
use Rattle.ss_targets.specs.Power.{group_length}
use Rattle.ss_targets.specs.PowerSum.{cap}
use Rattle.ss_targets.proofs.power.Power.shorter_groups.Given as goal

abbrev pub invariant-loop-low : goal.invariant-loop-low
invariant-loop-low l = record {
  short : (newer : ℕ) → newer < l.low → group_length l.self.widening l.self.scale newer < l.len;
  long : l.high < cap (l.self.power - 1 + l.self.widening) → l.len ≤ group_length l.self.widening l.self.scale l.high;
  order : l.low ≤ l.high;
  capped : l.high ≤ cap (l.self.power - 1 + l.self.widening);
}

abbrev pub decreases-loop-low : goal.decreases-loop-low
decreases-loop-low l = l.high - l.low
