-- A disk in memory, as its calls tell it.
use Rattle.std.specs.Prelude.{◌≡◌, ◌⊎◌, ℕ, zero, suc, ◌+◌, ◌-◌, ◌≤◌, max, Bool, true, false, List, [], ◌∷◌, ◌++◌, length, filter, Option, None, Contains}
use Rattle.std.specs.Prelude.{IsSomeAnd, refl}
use mathlib.Core.Logic.{inl, inr}
use Rattle.ss_outside.specs.Crash.{KnowsNow}
use Rattle.ss_outside.specs.Disk.{DiskView, Told, overwrite, IsImage, AreBytes}
use Rattle.ss_outside.specs.Memory.{one_more}

-- a call that changed something: a write of these bytes, a failed write over so many places, a good sync
pub data DiskCall : Type 0 where
  Wrote : ℕ → List ℕ → DiskCall
  Tore : ℕ → ℕ → DiskCall
  Synced : DiskCall

-- whether a call is a good sync
abbrev pub is_sync : DiskCall → Bool
is_sync (Wrote at bytes) = false
is_sync (Tore at count) = false
is_sync Synced = true

-- how many bytes a call keeps
abbrev pub kept_bytes : DiskCall → ℕ
kept_bytes (Wrote at bytes) = length bytes
kept_bytes (Tore at count) = 0
kept_bytes Synced = 0

-- how many of these calls are good syncs
abbrev pub good_syncs : List DiskCall → ℕ
good_syncs calls = length (filter is_sync calls)

-- the content now, the content at the last good sync, and since then the ranges that became pending and the greatest
-- length reached
pub record DiskState : Type 0 where
  pub content : List ℕ
  pub synced : List ℕ
  pub pending : List (ℕ × ℕ)
  pub longest : ℕ

-- nothing pending
abbrev pub fresh : List ℕ → DiskState
fresh content = record { content = content; synced = content; pending = []; longest = length content }

-- one range more that is pending, and what the content is then
abbrev pub pend : DiskState → ℕ → ℕ → List ℕ → DiskState
pend s at count content = record { content = content; synced = s.synced; pending = (at, count) ∷ s.pending; longest = max s.longest (at + count) }

-- the state after one call
abbrev pub step : DiskState → DiskCall → DiskState
step s (Wrote at bytes) = pend s at (length bytes) (overwrite s.content at bytes)
step s (Tore at count) = pend s at count s.content
step s Synced = fresh s.content

-- and after these calls, one after another
abbrev pub replay : DiskState → List DiskCall → DiskState
replay s [] = s
replay s (call ∷ calls) = replay (step s call) calls

-- what a crash may leave: the content, and every other image of the disk model
abbrev pub Leaves : DiskState → List ℕ → Type 0
Leaves s image = (image ≡ s.content) ⊎ IsImage s.synced s.pending s.longest image

-- what a crash may have left after the first t calls or later
abbrev pub LeftSince : DiskState → List DiskCall → ℕ → List ℕ → Type 0
LeftSince s [] t image = Leaves s image
LeftSince s (call ∷ calls) zero image = Leaves s image ⊎ LeftSince (step s call) calls zero image
LeftSince s (call ∷ calls) (suc t) image = LeftSince (step s call) calls t image

-- what contracts see of a disk in memory: what it held when it was made, the calls since that changed something, the
-- spare calls and bytes, the listed calls, the first of those that fail all, and how many calls were made, failed, and failed
-- because memory ran out
pub record MemDiskState : Type 0 where
  pub start : List ℕ
  pub changes : List DiskCall
  pub spare_calls : ℕ
  pub spare_bytes : ℕ
  pub failing : List ℕ
  pub stop : Option ℕ
  pub calls : ℕ
  pub faults : ℕ
  pub short : ℕ

-- a disk that was just made
abbrev pub made : List ℕ → MemDiskState
made content = record { start = content; changes = []; spare_calls = 0; spare_bytes = 0; failing = []; stop = None; calls = 0; faults = 0; short = 0 }

-- the state of a disk in memory now
abbrev pub now : MemDiskState → DiskState
now s = replay (fresh s.start) s.changes

-- the next call fails
abbrev pub IsListed : MemDiskState → Type 0
IsListed s = Contains s.failing s.calls ⊎ IsSomeAnd s.stop (λ first. first ≤ s.calls)

-- after a call that answered, one that failed, and one that failed because memory ran out
abbrev pub answered : MemDiskState → MemDiskState
answered s = record s { calls = one_more s.calls }

abbrev pub failed : MemDiskState → MemDiskState
failed s = record s { calls = one_more s.calls; faults = one_more s.faults }

abbrev pub starved : MemDiskState → MemDiskState
starved s = record s { calls = one_more s.calls; faults = one_more s.faults; short = one_more s.short }

-- the same with one change more, for which the spare is used
abbrev pub with_change : MemDiskState → DiskCall → MemDiskState
with_change s call =
    record s { changes = s.changes ++ call ∷ []; spare_calls = s.spare_calls - 1; spare_bytes = s.spare_bytes - kept_bytes call }

-- the spare is enough for a call that keeps so many bytes
abbrev pub Suffices : MemDiskState → ℕ → Type 0
Suffices s bytes = (1 ≤ s.spare_calls) × (bytes ≤ s.spare_bytes)

-- with so many spare calls and bytes at least
abbrev pub reserved : MemDiskState → ℕ → ℕ → MemDiskState
reserved s calls bytes = record s { spare_calls = max s.spare_calls calls; spare_bytes = max s.spare_bytes bytes }

-- what it tells
abbrev pub told_by : MemDiskState → Told
told_by s = record {
  content = (now s).content;
  may_leave = Leaves (now s);
  moment = length s.changes;
  left_since = LeftSince (fresh s.start) s.changes;
  syncs = good_syncs s.changes;
}

-- what it is to a contract
abbrev pub view_of : MemDiskState → DiskView
view_of s = record { tells = true; told = told_by s; faults = s.faults }

-- what every disk in memory keeps: it synced bytes, and its content is an image of the disk model
pub record IsConsistent (s : DiskState) : Type 0 where
  pub bytes : AreBytes s.synced
  pub short : length s.synced ≤ s.longest
  pub own : IsImage s.synced s.pending s.longest s.content

-- it tells of now: this moment is one of those since an earlier one, and there is none since
left_now : (s : DiskState) (calls : List DiskCall) (t : ℕ) (image : List ℕ) → Leaves (replay s calls) image → LeftSince s calls t image
left_now s [] t image is = is
left_now s (call ∷ calls) zero image is = inr (left_now (step s call) calls zero image is)
left_now s (call ∷ calls) (suc t) image is = left_now (step s call) calls t image is

only_left : (s : DiskState) (calls : List DiskCall) (image : List ℕ) → LeftSince s calls (length calls) image → Leaves (replay s calls) image
only_left s [] image left = left
only_left s (call ∷ calls) image left = only_left (step s call) calls image left

pub knows_now : (s : MemDiskState) → KnowsNow (told_by s)
knows_now s = record {
  content_is_image = inl refl;
  counts_now = λ t image le is. left_now (fresh s.start) s.changes t image is;
  only_now = only_left (fresh s.start) s.changes;
}
