-- Rows that pin what memory taken ahead is enough for, and what a call uses of it.
use Rattle.std.proofs.Common.{◌≡◌, ◌+◌, ◌^◌, [], ◌∷◌, ℕ, refl, lit≤, arith}
use Rattle.ss_outside.specs.Memory.{CanBeSpare, IsBeyond, SinkState, SourceState, SteadySinkState, advanced, crowded, moved, roomy}
use Rattle.ss_outside.specs.Memory.{steady_crowded, steady_roomy, steady_taken, sink_taken, unmoved, untaken}
use Rattle.ss_outside.specs.MemDisk.{MemDiskState, Suffices, Synced, Tore, Wrote, answered, failed, made, reserved, starved, with_change}
use Rattle.ss_outside.specs.declared.spare.TheConstants.{MOST_SPARE}

most_spare : MOST_SPARE ≡ 2 ^ 32
most_spare = refl

CanBeSpare-most : CanBeSpare (2 ^ 32)
CanBeSpare-most = lit≤ tt

CanBeSpare-more : CanBeSpare (2 ^ 32 + 1) → ⊥
CanBeSpare-more can = omega (arith, can)

-- two bytes are beyond one that is spare, and not beyond two
IsBeyond-one : IsBeyond 1 (7 ∷ 8 ∷ [])
IsBeyond-one = lit≤ tt

IsBeyond-two : IsBeyond 2 (7 ∷ 8 ∷ []) → ⊥
IsBeyond-two beyond = omega (arith, beyond)

-- a disk with so many spare calls and bytes
abbrev spared : ℕ → ℕ → MemDiskState
spared calls bytes = record (made (1 ∷ 2 ∷ [])) { spare_calls = calls; spare_bytes = bytes }

-- a call of two bytes needs a spare call and two spare bytes
Suffices-just : Suffices (spared 1 2) 2
Suffices-just = (lit≤ tt, lit≤ tt)

Suffices-no_call : Suffices (spared 0 2) 2 → ⊥
Suffices-no_call suffices = omega (arith, suffices.0)

Suffices-few_bytes : Suffices (spared 1 1) 2 → ⊥
Suffices-few_bytes suffices = omega (arith, suffices.1)

-- a disk that was just made has no spare
made-spare : made (1 ∷ 2 ∷ []) ≡ spared 0 0
made-spare = refl

-- a write uses one call and its bytes, a failed one and a sync one call
with_change-Wrote : with_change (spared 3 5) (Wrote 0 (7 ∷ 8 ∷ [])) ≡ record (spared 2 3) { changes = Wrote 0 (7 ∷ 8 ∷ []) ∷ [] }
with_change-Wrote = refl

with_change-Tore : with_change (spared 3 5) (Tore 0 2) ≡ record (spared 2 5) { changes = Tore 0 2 ∷ [] }
with_change-Tore = refl

with_change-Synced : with_change (spared 3 5) Synced ≡ record (spared 2 5) { changes = Synced ∷ [] }
with_change-Synced = refl

-- beyond the spare none is left
with_change-beyond : with_change (spared 0 1) (Wrote 0 (7 ∷ 8 ∷ [])) ≡ record (spared 0 0) { changes = Wrote 0 (7 ∷ 8 ∷ []) ∷ [] }
with_change-beyond = refl

-- other calls use none: one that answered, one that failed, and one that found no memory
answered-spare : answered (spared 3 5) ≡ record (spared 3 5) { calls = 1 }
answered-spare = refl

failed-spare : failed (spared 3 5) ≡ record (spared 3 5) { calls = 1; faults = 1 }
failed-spare = refl

starved-spare : starved (spared 3 5) ≡ record (spared 3 5) { calls = 1; faults = 1; short = 1 }
starved-spare = refl

-- each of the two numbers is raised, and neither gets less
reserved-calls : reserved (spared 3 5) 4 4 ≡ spared 4 5
reserved-calls = refl

reserved-bytes : reserved (spared 3 5) 2 6 ≡ spared 3 6
reserved-bytes = refl

-- a sink that holds a byte, with so many spare bytes
abbrev sink : ℕ → SinkState
sink spare = record { held = 1 ∷ []; spare = spare; failing = []; calls = 4; faults = 2; short = 1 }

sink_taken-two : sink_taken (sink 3) (7 ∷ 8 ∷ []) ≡ record { held = 1 ∷ 7 ∷ 8 ∷ []; spare = 1; failing = []; calls = 5; faults = 2; short = 1 }
sink_taken-two = refl

untaken-one : untaken (sink 3) ≡ record { held = 1 ∷ []; spare = 3; failing = []; calls = 5; faults = 3; short = 1 }
untaken-one = refl

crowded-one : crowded (sink 3) ≡ record { held = 1 ∷ []; spare = 3; failing = []; calls = 5; faults = 3; short = 2 }
crowded-one = refl

roomy-more : roomy (sink 3) 4 ≡ sink 4
roomy-more = refl

roomy-fewer : roomy (sink 3) 2 ≡ sink 3
roomy-fewer = refl

-- one that fails only where memory runs out
abbrev steady : ℕ → SteadySinkState
steady spare = record { held = 1 ∷ []; spare = spare; short = 1 }

steady_taken-two : steady_taken (steady 3) (7 ∷ 8 ∷ []) ≡ record { held = 1 ∷ 7 ∷ 8 ∷ []; spare = 1; short = 1 }
steady_taken-two = refl

steady_crowded-one : steady_crowded (steady 3) ≡ record { held = 1 ∷ []; spare = 3; short = 2 }
steady_crowded-one = refl

steady_roomy-more : steady_roomy (steady 3) 4 ≡ steady 4
steady_roomy-more = refl

steady_roomy-fewer : steady_roomy (steady 3) 2 ≡ steady 3
steady_roomy-fewer = refl

-- a source that fails where a read is listed, and one that never fails
abbrev source : SourceState
source = record { left = 7 ∷ 8 ∷ 9 ∷ []; taken = 3; piece = 2; failing = []; calls = 4; faults = 1 }

moved-two : moved source 2 ≡ record { left = 9 ∷ []; taken = 5; piece = 2; failing = []; calls = 5; faults = 1 }
moved-two = refl

unmoved-one : unmoved source ≡ record { left = 7 ∷ 8 ∷ 9 ∷ []; taken = 3; piece = 2; failing = []; calls = 5; faults = 2 }
unmoved-one = refl

advanced-two : advanced (record { left = 7 ∷ 8 ∷ 9 ∷ []; taken = 3; piece = 2 }) 2 ≡ record { left = 9 ∷ []; taken = 5; piece = 2 }
advanced-two = refl
