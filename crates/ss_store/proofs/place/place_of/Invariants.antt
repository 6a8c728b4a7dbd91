use Rattle.ss_store.proofs.Common.{◌-◌, ◌<◌, ◌≤◌, length, held_parts}
use Rattle.ss_store.proofs.PlaceLemmas.{place_in}
use Rattle.ss_store.proofs.place.place_of.Given as goal

abbrev pub invariant-loop-high : goal.invariant-loop-high
invariant-loop-high l = record {
  low : l.low ≤ place_in l.id.0 (held_parts l.streams);
  high : place_in l.id.0 (held_parts l.streams) < l.high;
  inside : l.high ≤ length l.streams;
}

abbrev pub decreases-loop-high : goal.decreases-loop-high
decreases-loop-high l = l.high - l.low
