-- One relation for a call of a disk, or for some in a row.
use Rattle.std.specs.Prelude.{◌≡◌, ◌⊎◌, ℕ, ◌+◌, List, length, IsErr, IsTrue, IfOk, OnOk, OnErr, Result}
use Rattle.ss_outside.specs.Crash.{Elapses, OnlyReads}
use Rattle.ss_outside.specs.Disk.{DiskView, Told, overwrite, IsReadFrom, BecomesPending, StaysSame, NothingPending}
use Rattle.ss_outside.specs.Verdict.{Verdict, Counted}
use Rattle.ss_outside.specs.declared.source.Failed.{Failed}

-- Telling stays, the count of faults goes by the verdict, and where the disk tells, this holds of what it told and what it
-- tells then.
pub record Step (v : Verdict) (old new : DiskView) (R : Told → Told → Type 0) : Type 0 where
  pub tells : new.tells ≡ old.tells
  pub counted : Counted v old.faults new.faults
  pub told : IsTrue old.tells → R old.told new.told

-- The length of the content is asked for. Content and images stay.
pub record Measures (result : Result ℕ Failed) (old new : Told) : Type 0 where
  pub reads : OnlyReads old new
  pub length : IfOk result (λ n. n ≡ length old.content)

-- Bytes are read. Content and images stay.
pub record ReadsAt (at : ℕ) (into : List ℕ) (result : Result Unit Failed) (old new : Told) : Type 0 where
  pub reads : OnlyReads old new
  pub bytes : OnOk result (IsReadFrom old.content at into)

-- Bytes are written over what is there, and past the end: they are pending then.
pub record WritesAt (at : ℕ) (bytes : List ℕ) (result : Result Unit Failed) (old new : Told) : Type 0 where
  pub written : OnOk result (new.content ≡ overwrite old.content at bytes)
  pub pending : BecomesPending at (length bytes) old new ⊎ (IsErr result × StaysSame old new)
  pub time : Elapses old new

-- What is pending is made durable, by one sync, or at a failure stays pending.
pub record Syncs (result : Result Unit Failed) (old new : Told) : Type 0 where
  pub durable : OnOk result (NothingPending new)
  pub syncs : OnOk result (new.syncs ≡ old.syncs + 1)
  pub no_other : (image : List ℕ) → new.may_leave image → old.may_leave image
  pub pending : OnErr result (StaysSame old new)
  pub content : new.content ≡ old.content
  pub time : Elapses old new
