use Rattle.ss_journal.proofs.Common.{◌-◌, ◌<◌, ◌≤◌, drop, length, take}
use Rattle.std.proofs.Common.{All}
use Rattle.ss_journal.proofs.newest.count_below.Given as goal

abbrev pub invariant-loop-low : goal.invariant-loop-low
invariant-loop-low l = record {
  ordered : l.low ≤ l.high;
  within : l.high ≤ length l.puts;
  below : All (λ put. put.slot < l.slot) (take l.low l.puts);
  from : All (λ put. l.slot ≤ put.slot) (drop l.high l.puts);
}

abbrev pub decreases-loop-low : goal.decreases-loop-low
decreases-loop-low l = l.high - l.low
