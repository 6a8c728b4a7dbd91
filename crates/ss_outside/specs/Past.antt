-- How the calls of a disk in memory are kept.
use Rattle.std.specs.Prelude.{◌≡◌, ℕ, ◌+◌, ◌-◌, ◌≤◌, ◌++◌, max, List, [], ◌∷◌, length, take, drop, ⊤}
use Rattle.ss_outside.specs.MemDisk.{DiskCall, Wrote, Tore, Synced, fresh, kept_bytes, replay}
use Rattle.ss_outside.specs.declared.disk.TheConstants.{LONGEST_DISK}
use Rattle.ss_outside.specs.declared.past.Change.{Change}
use Rattle.ss_outside.specs.declared.past.Change.TheVariants.{Bytes, Torn, Sync}

-- the calls that are kept, and for how many more, and how many more of their bytes, memory was taken ahead
pub record PastState : Type 0 where
  pub calls : List DiskCall
  pub spare_calls : ℕ
  pub spare_bytes : ℕ

-- one call more
abbrev pub with_call : PastState → DiskCall → PastState
with_call p call = record { calls = p.calls ++ call ∷ []; spare_calls = p.spare_calls - 1; spare_bytes = p.spare_bytes - kept_bytes call }

-- so many spare calls and bytes at least
abbrev pub with_spare : PastState → ℕ → ℕ → PastState
with_spare p calls bytes = record p { spare_calls = max p.spare_calls calls; spare_bytes = max p.spare_bytes bytes }

-- the call that a change stands for, with its bytes in the pool
abbrev pub call_of : List ℕ → Change → DiskCall
call_of pool (Bytes at from count) = Wrote at (take count (drop from pool))
call_of pool (Torn at count) = Tore at count
call_of pool Sync = Synced

-- its bytes lie in a pool of this size, and it ends within the longest disk
abbrev pub LiesWithin : ℕ → Change → Type 0
LiesWithin size (Bytes at from count) = (from + count ≤ size) × (at + count ≤ LONGEST_DISK)
LiesWithin size (Torn at count) = at + count ≤ LONGEST_DISK
LiesWithin size Sync = ⊤

-- none of the calls is a sync
abbrev pub AreWrites : List DiskCall → Type 0
AreWrites [] = ⊤
AreWrites (Wrote at bytes ∷ calls) = AreWrites calls
AreWrites (Tore at count ∷ calls) = AreWrites calls
AreWrites (Synced ∷ calls) = ⊥

-- so many of the calls came up to the last good sync
pub record CountsToSync (synced : ℕ) (calls : List DiskCall) : Type 0 where
  pub within : synced ≤ length calls
  pub since : AreWrites (drop synced calls)
  -- nothing was pending then
  pub nothing_pending : (start : List ℕ) → replay (fresh start) (take synced calls) ≡ fresh (replay (fresh start) calls).synced
