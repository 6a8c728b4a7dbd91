use Rattle.std.proofs.Common.{◌≡◌, ◌-◌, ◌≤◌, length, max}
use Rattle.ss_line.specs.declared.entry.At.{At}
use Rattle.ss_schedule.specs.Keyed.{key_at}
use Rattle.ss_schedule.proofs.keys.Keys.reserve.Given as goal

abbrev pub invariant-loop-self : goal.invariant-loop-self
invariant-loop-self l = record {
  grows : length l.initial.self ≤ length l.self;
  least : length l.self ≤ max (length l.initial.self) l.places;
  keys : (at : At) → key_at l.self at ≡ key_at l.initial.self at;
}

abbrev pub decreases-loop-self : goal.decreases-loop-self
decreases-loop-self l = l.places - length l.self
