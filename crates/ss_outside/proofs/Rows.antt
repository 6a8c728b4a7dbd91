-- Rows that pin constants and tests, each computed.
use Rattle.std.proofs.Common.{◌≡◌, ◌-◌, ◌^◌, [], ◌∷◌, refl, lit≤, arith}
use Rattle.ss_outside.specs.Verdict.{Rose}
use Rattle.ss_outside.specs.MemDisk.{Synced, Tore, Wrote, good_syncs}
use Rattle.ss_outside.specs.declared.disk.TheConstants.{LONGEST_DISK}

longest_disk : LONGEST_DISK ≡ 2 ^ 32
longest_disk = refl

-- from 3 to 3 a count did not rise, from 3 to 4 it did
Rose-same : Rose 3 3 → ⊥
Rose-same rose = omega arith

Rose-more : Rose 3 4
Rose-more = lit≤ tt

-- at its greatest it stands still, and one below it must reach it
Rose-greatest : Rose (2 ^ 64 - 1) (2 ^ 64 - 1)
Rose-greatest = lit≤ tt

Rose-below_greatest : Rose (2 ^ 64 - 2) (2 ^ 64 - 2) → ⊥
Rose-below_greatest rose = omega arith

-- only syncs are counted, and only those that answered
good_syncs-two : good_syncs (Wrote 0 (7 ∷ []) ∷ Synced ∷ Tore 1 2 ∷ Synced ∷ []) ≡ 2
good_syncs-two = refl
