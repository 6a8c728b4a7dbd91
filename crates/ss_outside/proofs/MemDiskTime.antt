-- How time goes on at a disk in memory.
use Rattle.std.proofs.Common.{◌⊎◌, inl, inr, ⊎_elim, ℕ, zero, suc, ◌≤◌, List, [], ◌∷◌, ◌++◌, length, arith, length-append}
use Rattle.ss_outside.specs.Crash.{Elapses}
use Rattle.ss_outside.specs.MemDisk.{DiskCall, DiskState, MemDiskState, fresh, step, replay, with_change, told_by, Leaves, LeftSince}

left_push : (s : DiskState) (calls : List DiskCall) (call : DiskCall) (t : ℕ) (image : List ℕ) → t ≤ length calls
    → LeftSince s (calls ++ call ∷ []) t image → LeftSince s calls t image ⊎ Leaves (replay s (calls ++ call ∷ [])) image
left_push s [] call zero image le left = left
left_push s [] call (suc t) image le left = absurd (omega arith)
left_push s (c ∷ calls) call zero image le (inl is) = inl (inl is)
left_push s (c ∷ calls) call zero image le (inr left) =
    ⊎_elim (λ was. inl (inr was)) (λ is. inr is) (left_push (step s c) calls call zero image (omega arith) left)
left_push s (c ∷ calls) call (suc t) image le left = left_push (step s c) calls call t image (omega arith) left

push_keeps : (s : DiskState) (calls : List DiskCall) (call : DiskCall) (t : ℕ) (image : List ℕ) → t ≤ length calls → LeftSince s calls t image
    → LeftSince s (calls ++ call ∷ []) t image
push_keeps s [] call zero image le left = inl left
push_keeps s [] call (suc t) image le left = absurd (omega arith)
push_keeps s (c ∷ calls) call zero image le (inl is) = inl is
push_keeps s (c ∷ calls) call zero image le (inr left) = inr (push_keeps (step s c) calls call zero image (omega arith) left)
push_keeps s (c ∷ calls) call (suc t) image le left = push_keeps (step s c) calls call t image (omega arith) left

-- a call that changed something
pub time_push : (s : MemDiskState) (call : DiskCall) → Elapses (told_by s) (told_by (with_change s call))
time_push s call = record {
  later = omega (arith, length-append s.changes (call ∷ []));
  nothing_else = left_push (fresh s.start) s.changes call;
  keeps = push_keeps (fresh s.start) s.changes call;
}
