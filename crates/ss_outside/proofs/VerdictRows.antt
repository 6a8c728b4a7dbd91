-- Rows that pin what each verdict says, and what is said of a disk that tells.
use Rattle.std.proofs.Common.{◌≡◌, ℕ, ◌≤◌, List, IsTrue, Ok, Err, refl}
use Rattle.ss_outside.specs.Disk.{DiskView, Told, Between, OfContent, WhereTold}
use Rattle.ss_outside.specs.Step.{Step}
use Rattle.ss_outside.specs.Verdict.{Verdict, Counted, IfChanged, IfUndone, IsFirm, OnFailed, OnFine, OnNoMemory, OnRefused, Rose, UnlessFailed}
use Rattle.ss_outside.specs.Verdict.{fine, refused, no_memory, stopped, failed, changed, verdict}
use Rattle.ss_outside.specs.declared.source.Failed.{Failed}

verdict-Ok : verdict {T = ℕ} (Ok 7) ≡ fine
verdict-Ok = refl

verdict-Err : (e : Failed) → verdict {T = ℕ} (Err e) ≡ failed
verdict-Err e = refl

module _ (before now : ℕ) where
  Counted-fine : Counted fine before now → now ≡ before
  Counted-fine same = same

  Counted-refused : Counted refused before now → now ≡ before
  Counted-refused same = same

  Counted-no_memory : Counted no_memory before now → now ≡ before
  Counted-no_memory same = same

  Counted-stopped : Counted stopped before now → now ≡ before
  Counted-stopped same = same

  Counted-changed : (slot : ℕ) → Counted (changed slot) before now → now ≡ before
  Counted-changed slot same = same

  Counted-failed : Counted failed before now → (before ≤ now) × Rose before now
  Counted-failed rose = rose

IsFirm-changed : (slot : ℕ) → IsFirm (changed slot) → ⊥
IsFirm-changed slot firm = firm

IfChanged-changed : (P : ℕ → Type 0) (slot : ℕ) → IfChanged (changed slot) P → P slot
IfChanged-changed P slot has = has

module _ (P : Type 0) where
  OnFine-fine : OnFine fine P → P
  OnFine-fine has = has

  OnRefused-refused : OnRefused refused P → P
  OnRefused-refused has = has

  OnNoMemory-no_memory : OnNoMemory no_memory P → P
  OnNoMemory-no_memory has = has

  OnFailed-failed : OnFailed failed P → P
  OnFailed-failed has = has

  IfUndone-refused : IfUndone refused P → P
  IfUndone-refused has = has

  IfUndone-no_memory : IfUndone no_memory P → P
  IfUndone-no_memory has = has

  IfUndone-stopped : IfUndone stopped P → P
  IfUndone-stopped has = has

  UnlessFailed-fine : UnlessFailed fine P → P
  UnlessFailed-fine has = has

  UnlessFailed-refused : UnlessFailed refused P → P
  UnlessFailed-refused has = has

  UnlessFailed-no_memory : UnlessFailed no_memory P → P
  UnlessFailed-no_memory has = has

  UnlessFailed-stopped : UnlessFailed stopped P → P
  UnlessFailed-stopped has = has

  UnlessFailed-changed : (slot : ℕ) → UnlessFailed (changed slot) P → P
  UnlessFailed-changed slot has = has

module _ (old new : DiskView) where
  WhereTold-tells : (P : Told → Type 0) → IsTrue old.tells → WhereTold old P → P old.told
  WhereTold-tells P told has = has told

  OfContent-tells : (P : List ℕ → Type 0) → IsTrue old.tells → OfContent old P → P old.told.content
  OfContent-tells P told has = has told

  Between-tells : (R : Told → Told → Type 0) → IsTrue old.tells → Between old new R → R old.told new.told
  Between-tells R told has = has told

  Step-tells : (v : Verdict) (R : Told → Told → Type 0) → Step v old new R → IsTrue old.tells → IsTrue new.tells × R old.told new.told
  Step-tells v R step told = (rw step.tells told, step.told told)

  Step-counted : (v : Verdict) (R : Told → Told → Type 0) → Step v old new R → Counted v old.faults new.faults
  Step-counted v R step = step.counted
