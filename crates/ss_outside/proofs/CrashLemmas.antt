-- How "a crash at any moment" goes on from call to call.
use Rattle.std.proofs.Common.{inl, inr, ◌⊎◌, ⊎_elim, ℕ, List, refl, ◌∙◌, sym, arith}
use Rattle.ss_outside.specs.Crash.{Elapses, KnowsNow, OnlyReads, LeavesOnly}
use Rattle.ss_outside.specs.Disk.{Told, Torn, BecomesPending, StaysSame, NothingPending}

-- after a write, whatever it answers: what holds of each image before, and of each way to tear it, holds of each image
pub after_write : {A : Type 0} (at count : ℕ) (old new : Told) (P : List ℕ → Type 0) → BecomesPending at count old new ⊎ (A × StaysSame old new)
    → ((image : List ℕ) → old.may_leave image → P image) → ((was image : List ℕ) → old.may_leave was → Torn at count was image → P image)
    → (image : List ℕ) → new.may_leave image → P image
after_write at count old new P (inl pending) stays torn image is = let from = pending.nothing_else image is in torn from.0 image from.1 from.2
after_write at count old new P (inr none) stays torn image is = stays image ((none.1.images image).1 is)

-- with nothing pending, a property of the content is one of each image
pub of_content : (disk : Told) (P : List ℕ → Type 0) → NothingPending disk → P disk.content → (image : List ℕ) → disk.may_leave image → P image
of_content disk P only has image is = rw (only image is) has

-- before the first call
pub at_start : (disk : Told) (P : List ℕ → Type 0) → KnowsNow disk → ((image : List ℕ) → disk.may_leave image → P image) → LeavesOnly disk disk P
at_start disk P knows here = record { later = omega arith; each = λ image left. here image (knows.only_now image left); earlier = λ t image le left. inl left }

module _ (old new : Told) where
  -- a weaker property
  pub weaker : (P Q : List ℕ → Type 0) → ((image : List ℕ) → P image → Q image) → LeavesOnly old new P → LeavesOnly old new Q
  weaker P Q gives run = record {
    later = run.later;
    each = λ image left. gives image (run.each image left);
    earlier = λ t image le left. ⊎_elim (λ was. inl was) (λ has. inr (gives image has)) (run.earlier t image le left);
  }

  -- what holds at any moment holds now
  pub now : (P : List ℕ → Type 0) → KnowsNow new → LeavesOnly old new P → (image : List ℕ) → new.may_leave image → P image
  now P knows run image is = run.each image (knows.counts_now old.moment image run.later is)

  -- a call that only reads leaves one of the images from before
  pub read_leaves : KnowsNow old → OnlyReads old new → LeavesOnly old new old.may_leave
  read_leaves knows reads = record {
    later = reads.time.later;
    each = λ image left. ⊎_elim (knows.only_now image) ((reads.same.images image).1) (reads.time.nothing_else old.moment image (omega arith) left);
    earlier = λ t image le left. ⊎_elim (λ was. inl was) (λ is. inr ((reads.same.images image).1 is)) (reads.time.nothing_else t image le left);
  }

module _ (old mid new : Told) (P : List ℕ → Type 0) where
  -- one run after another
  pub joined : LeavesOnly old mid P → LeavesOnly mid new P → LeavesOnly old new P
  joined first second = record {
    later = omega (arith, first.later, second.later);
    each = λ image left. ⊎_elim (first.each image) (λ has. has) (second.earlier old.moment image first.later left);
    earlier = λ t image le left. ⊎_elim (first.earlier t image le) (λ has. inr has) (second.earlier t image (omega (arith, le, first.later)) left);
  }

  -- one call more, after which a crash leaves what has P
  pub goes_on : LeavesOnly old mid P → Elapses mid new → ((image : List ℕ) → new.may_leave image → P image) → LeavesOnly old new P
  goes_on so_far time here = record {
    later = omega (arith, so_far.later, time.later);
    each = λ image left. ⊎_elim (so_far.each image) (here image) (time.nothing_else old.moment image so_far.later left);
    earlier = λ t image le left. ⊎_elim (so_far.earlier t image le) (λ now. inr (here image now))
        (time.nothing_else t image (omega (arith, le, so_far.later)) left);
  }

-- calls that change nothing
pub same-joined : (old mid new : Told) → StaysSame old mid → StaysSame mid new → StaysSame old new
same-joined old mid new first second = record {
  content = second.content ∙ first.content;
  images = λ image. (λ is. (second.images image).0 ((first.images image).0 is), λ is. (first.images image).1 ((second.images image).1 is));
  syncs = second.syncs ∙ first.syncs;
}

pub nothing_pending-same : (old new : Told) → StaysSame old new → NothingPending old → NothingPending new
nothing_pending-same old new same only image left = only image ((same.images image).1 left) ∙ sym same.content

-- no call
pub reads-none : (disk : Told) → OnlyReads disk disk
reads-none disk = record {
  same = record { content = refl; images = λ image. (λ is. is, λ is. is); syncs = refl };
  time = record { later = omega arith; nothing_else = λ t image le left. inl left; keeps = λ t image le left. left };
}

-- calls that only read, one after another
pub reads-joined : (old mid new : Told) → OnlyReads old mid → OnlyReads mid new → OnlyReads old new
reads-joined old mid new first second = record {
  same = same-joined old mid new first.same second.same;
  time = record {
    later = omega (arith, first.time.later, second.time.later);
    nothing_else = λ t image le left. ⊎_elim
        (λ was. ⊎_elim (λ left. inl left) (λ is. inr ((second.same.images image).0 is)) (first.time.nothing_else t image le was)) (λ is. inr is)
        (second.time.nothing_else t image (omega (arith, le, first.time.later)) left);
    keeps = λ t image le left. second.time.keeps t image (omega (arith, le, first.time.later)) (first.time.keeps t image le left);
  };
}
