use Rattle.std.proofs.Common.{◌+◌, ◌-◌, ◌^◌, ◌<◌, ◌≤◌}
use Rattle.ss_targets.specs.PowerSum.{cap, power_sum}
use Rattle.ss_targets.proofs.power_sum.last_sum_within.Given as goal

abbrev pub invariant-loop-high : goal.invariant-loop-high
invariant-loop-high g l = record {
  within : power_sum l.exponent l.low ≤ l.most;
  past : l.most < power_sum l.exponent l.high;
  capped : l.high ≤ cap l.exponent;
  order : l.low ≤ l.high;
  ticks : l.steps ≤ l.fn.steps + 42;
  width : l.high - l.low ≤ 2 ^ (l.fn.steps + 42 - l.steps);
}

abbrev pub decreases-loop-high : goal.decreases-loop-high
decreases-loop-high g l = l.high - l.low
