-- What the calls of a disk in memory leave, as every disk says it.
use Rattle.std.proofs.Common.{◌≡◌, ◌⊎◌, inl, inr, ⊎_elim, ℕ, ◌+◌, List, [], ◌∷◌, length, Result, Ok, Err, refl, sym, ◌∙◌, ap, arith}
use Rattle.std.specs.Prelude.{IsErr, OnOk, OnErr, MatchResult}
use Rattle.ss_outside.proofs.CrashLemmas.{reads-none}
use Rattle.ss_outside.proofs.DiskLemmas.{only_image, torn_is_image, image_is_torn}
use Rattle.ss_outside.proofs.MemDiskTime.{time_push}
use Rattle.ss_outside.proofs.PastLemmas.{good_syncs-push, replay-append}
use Rattle.ss_outside.specs.Crash.{Elapses}
use Rattle.ss_outside.specs.Disk.{overwrite, IsImage, BecomesPending, StaysSame, NothingPending}
use Rattle.ss_outside.specs.MemDisk.{DiskCall, Wrote, Tore, Synced, DiskState, MemDiskState, fresh, good_syncs, pend, step, now, Leaves, told_by, IsListed}
use Rattle.ss_outside.specs.MemDisk.{IsConsistent, Suffices, answered, failed, starved, with_change}
use Rattle.ss_outside.specs.declared.source.Failed.{Failed}

stepped : (s : MemDiskState) (call : DiskCall) → now (with_change s call) ≡ step (now s) call
stepped s call = replay-append (fresh s.start) s.changes (call ∷ [])

-- each image is one of the disk model
in_model : (s : DiskState) → IsConsistent s → (image : List ℕ) → Leaves s image → IsImage s.synced s.pending s.longest image
in_model s sound image (inl same) = rw same sound.own
in_model s sound image (inr model) = model

module _ (old new : MemDiskState) where
  module _ (at : ℕ) (bytes : List ℕ) where
    pub content_written : new ≡ with_change (answered old) (Wrote at bytes) → (told_by new).content ≡ overwrite (told_by old).content at bytes
    content_written is = ap (λ (s : DiskState). s.content) (ap now is ∙ stepped (answered old) (Wrote at bytes))

    pends : (content : List ℕ) → IsConsistent (now old) → IsConsistent (now new) → now new ≡ pend (now old) at (length bytes) content
        → good_syncs new.changes ≡ good_syncs old.changes → BecomesPending at (length bytes) (told_by old) (told_by new)
    pends content sound_old sound_new is same = let s = now old in record {
      nothing_else = λ image left.
          let model = rw is at (in_model (now new) sound_new image left) in
          let from = image_is_torn s.synced s.pending s.longest at (length bytes) image sound_old.bytes sound_old.short model in
          (from.0, inr from.1, from.2);
      each = λ was image left torn.
          let model = torn_is_image s.synced s.pending s.longest at (length bytes) was image (in_model s sound_old was left) torn in
          inr (rw is model);
      syncs = same;
    }

    pub pending_written : IsConsistent (now old) → IsConsistent (now new) → (result : Result (Unit {0}) Failed) →
        OnOk result (new ≡ with_change (answered old) (Wrote at bytes))
        → OnErr result ((IsListed old × (new ≡ with_change (failed old) (Tore at (length bytes)))) ⊎ (¬ Suffices old (length bytes) × (new ≡ starved old)))
        → BecomesPending at (length bytes) (told_by old) (told_by new) ⊎ (IsErr result × StaysSame (told_by old) (told_by new))
    pending_written sound_old sound_new (Ok done) is none = inl (pends _ sound_old sound_new (ap now is ∙ stepped (answered old) (Wrote at bytes))
        (omega (arith, ap (λ (s : MemDiskState). good_syncs s.changes) is, good_syncs-push old.changes (Wrote at bytes))))
    pending_written sound_old sound_new (Err e) none (inl tore) =
        inl (pends _ sound_old sound_new (ap now tore.1 ∙ stepped (failed old) (Tore at (length bytes)))
        (omega (arith, ap (λ (s : MemDiskState). good_syncs s.changes) tore.1, good_syncs-push old.changes (Tore at (length bytes)))))
    pending_written sound_old sound_new (Err e) none (inr short) = inr (refl, rw short.1 (reads-none (told_by old)).same)

    pub time_written : (result : Result (Unit {0}) Failed) → OnOk result (new ≡ with_change (answered old) (Wrote at bytes))
        → OnErr result ((IsListed old × (new ≡ with_change (failed old) (Tore at (length bytes)))) ⊎ (¬ Suffices old (length bytes) × (new ≡ starved old)))
        → Elapses (told_by old) (told_by new)
    time_written (Ok done) is none = rw is (time_push old (Wrote at bytes))
    time_written (Err e) none (inl tore) = rw tore.1 (time_push old (Tore at (length bytes)))
    time_written (Err e) none (inr short) = rw short.1 (reads-none (told_by old)).time

  pub time_synced : (result : Result (Unit {0}) Failed) → OnOk result (¬ IsListed old × (new ≡ with_change (answered old) Synced))
      → OnErr result ((IsListed old × (new ≡ failed old)) ⊎ (¬ IsListed old × ¬ Suffices old 0 × (new ≡ starved old))) → Elapses (told_by old) (told_by new)
  time_synced (Ok done) is none = rw is.1 (time_push old Synced)
  time_synced (Err e) none (inl listed) = rw listed.1 (reads-none (told_by old)).time
  time_synced (Err e) none (inr short) = rw short.2 (reads-none (told_by old)).time

  pub state_synced : (result : Result (Unit {0}) Failed) → OnOk result (¬ IsListed old × (new ≡ with_change (answered old) Synced))
      → OnErr result ((IsListed old × (new ≡ failed old)) ⊎ (¬ IsListed old × ¬ Suffices old 0 × (new ≡ starved old))) →
      MatchResult result (λ _. now new ≡ fresh (now old).content) (λ _. now new ≡ now old)
  state_synced (Ok done) is none = ap now is.1 ∙ stepped (answered old) Synced
  state_synced (Err e) none (inl listed) = ap now listed.1
  state_synced (Err e) none (inr short) = ap now short.2

  pub syncs_synced : (result : Result (Unit {0}) Failed) → OnOk result (¬ IsListed old × (new ≡ with_change (answered old) Synced))
      → OnOk result (good_syncs new.changes ≡ good_syncs old.changes + 1)
  syncs_synced (Ok done) is = omega (arith, ap (λ (s : MemDiskState). good_syncs s.changes) is.1, good_syncs-push old.changes Synced)
  syncs_synced (Err e) is = tt

  -- by the state after a sync
  pub content_synced : (result : Result (Unit {0}) Failed) → MatchResult result (λ _. now new ≡ fresh (now old).content) (λ _. now new ≡ now old)
      → (told_by new).content ≡ (told_by old).content
  content_synced (Ok done) is = ap (λ (s : DiskState). s.content) is
  content_synced (Err e) is = ap (λ (s : DiskState). s.content) is

  only_content : now new ≡ fresh (now old).content → (image : List ℕ) → Leaves (now new) image → image ≡ (now old).content
  only_content is image left = ⊎_elim (λ same. same) (only_image (now old).content image) (rw is at left)

  pub durable_synced : (result : Result (Unit {0}) Failed) → MatchResult result (λ _. now new ≡ fresh (now old).content) (λ _. now new ≡ now old)
      → OnOk result (NothingPending (told_by new))
  durable_synced (Ok done) is = λ image left. only_content is image left ∙ sym (content_synced (Ok done) is)
  durable_synced (Err e) is = tt

  pub no_other_synced : (result : Result (Unit {0}) Failed) → MatchResult result (λ _. now new ≡ fresh (now old).content) (λ _. now new ≡ now old)
      → (image : List ℕ) → (told_by new).may_leave image → (told_by old).may_leave image
  no_other_synced (Ok done) is image left = inl (only_content is image left)
  no_other_synced (Err e) is image left = rw is at left

  pub same_synced : (result : Result (Unit {0}) Failed)
      → OnErr result ((IsListed old × (new ≡ failed old)) ⊎ (¬ IsListed old × ¬ Suffices old 0 × (new ≡ starved old)))
      → OnErr result (StaysSame (told_by old) (told_by new))
  same_synced (Ok done) none = tt
  same_synced (Err e) (inl listed) = rw listed.1 (reads-none (told_by old)).same
  same_synced (Err e) (inr short) = rw short.2 (reads-none (told_by old)).same
