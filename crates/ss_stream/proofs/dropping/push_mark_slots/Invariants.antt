use Rattle.ss_stream.proofs.Common.{◌≡◌, ◌++◌, take}
use Rattle.ss_stream.proofs.dropping.push_mark_slots.Given as goal

abbrev pub invariant-loop-place : goal.invariant-loop-place
invariant-loop-place l = l.slots.items ≡ l.initial.slots.items ++ take l.place (l.landmarks.slots ++ l.landmarks.value_slots)
