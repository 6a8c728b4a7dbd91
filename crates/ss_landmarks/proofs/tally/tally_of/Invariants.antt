use Rattle.std.proofs.Common.{◌≡◌, map, ◌*◌, ◌^◌, take, pos, neg_ℤ, ◌≤ℤ◌}
use Rattle.ss_landmarks.specs.Stored.{bare_value}
use Rattle.ss_landmarks.specs.ValuesIn.{total, least, greatest}
use Rattle.ss_landmarks.proofs.tally.tally_of.Given as goal

abbrev pub invariant-loop-value : goal.invariant-loop-value
invariant-loop-value l = record {
  count : l.count ≡ l.value-index;
  sum : l.sum ≡ total (map bare_value (take l.value-index l.values));
  low : neg_ℤ (pos (2 ^ 63 * l.value-index)) ≤ℤ l.sum;
  high : l.sum ≤ℤ pos (2 ^ 63 * l.value-index);
  least : l.least ≡ least (map bare_value (take l.value-index l.values));
  greatest : l.greatest ≡ greatest (map bare_value (take l.value-index l.values));
}
