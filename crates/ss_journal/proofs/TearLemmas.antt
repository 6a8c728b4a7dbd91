-- What a crash may leave of some calls in a row: of writes, and of the map.
use Rattle.ss_journal.proofs.Common.{Err, List, Ok, Result, [], inl, inr, ℕ, ◌++◌, ◌∷◌, ◌≡◌, ◌⊎◌, on_ok_weaker, IsErr, OnOk, joined, weaker}
use Rattle.ss_journal.proofs.Common.{KnowsNow, LeavesOnly, OnlyReads, NothingPending, Told, KeepsMap, MakesDurable, SlotMap, StandsFor, DiffersIn, Tears}
use Rattle.ss_outside.proofs.CrashLemmas.{after_write, at_start, goes_on, nothing_pending-same, now, of_content, read_leaves}
use Rattle.ss_outside.specs.Crash.{Elapses}
use Rattle.ss_outside.specs.Disk.{BecomesPending, StaysSame}
use Rattle.ss_journal.specs.Writes.{IsTorn}
use Rattle.ss_journal.proofs.RangeLemmas.{Covers, DiffersAt-torn, DiffersIn-append, DiffersIn-covered, DiffersIn-refl}

IsTorn-none : (ranges : List (ℕ × ℕ)) (disk : Told) (image : List ℕ) → disk.may_leave image → IsTorn ranges disk image
IsTorn-none ranges disk image left = record { was = image; left = left; differs = DiffersIn-refl ranges image }

-- before the first write
pub tears-none : (ranges : List (ℕ × ℕ)) (disk : Told) → KnowsNow disk → Tears ranges disk disk
tears-none ranges disk knows = at_start disk (IsTorn ranges disk) knows (IsTorn-none ranges disk)

module _ (old new : Told) where
  -- calls that only read
  pub tears-read : (ranges : List (ℕ × ℕ)) → KnowsNow old → OnlyReads old new → Tears ranges old new
  tears-read ranges knows reads = weaker old new old.may_leave (IsTorn ranges old) (IsTorn-none ranges old) (read_leaves old new knows reads)

  -- one write, whatever it answers
  pub tears-write : {A : Type 0} (at count : ℕ) → KnowsNow old → BecomesPending at count old new ⊎ (A × StaysSame old new) → Elapses old new
      → Tears ((at, count) ∷ []) old new
  tears-write at count knows pending time =
      let ranges : List (ℕ × ℕ) = (at, count) ∷ [] in
      goes_on old old new (IsTorn ranges old) (tears-none ranges old knows) time
      (after_write at count old new (IsTorn ranges old) pending (IsTorn-none ranges old)
      (λ was image left torn. record { was = was; left = left; differs = DiffersAt-torn at count was image torn }))

  -- with nothing pending they differ from the content there
  pub tears-content : (ranges : List (ℕ × ℕ)) → NothingPending old → Tears ranges old new → LeavesOnly old new (DiffersIn ranges old.content)
  tears-content ranges only run =
      weaker old new (IsTorn ranges old) (DiffersIn ranges old.content) (λ image torn. rw (only torn.was torn.left) at torn.differs) run

module _ (old mid new : Told) where
  -- a run after a read
  pub tears-after_read : (ranges : List (ℕ × ℕ)) → KnowsNow old → OnlyReads old mid → Tears ranges mid new → Tears ranges old new
  tears-after_read ranges knows reads run = joined old mid new (IsTorn ranges old) (tears-read old mid ranges knows reads)
      (weaker mid new (IsTorn ranges mid) (IsTorn ranges old) (λ image torn. record {
        was = torn.was;
        left = (reads.same.images torn.was).1 torn.left;
        differs = torn.differs;
      }) run)

  module _ (first : List (ℕ × ℕ)) (knows : KnowsNow mid) (so_far : Tears first old mid) where
    -- a sync after a run
    pub tears-synced : Elapses mid new → ((image : List ℕ) → new.may_leave image → mid.may_leave image) → Tears first old new
    tears-synced time no_other = goes_on old mid new (IsTorn first old) so_far time
        (λ image left. now old mid (IsTorn first old) knows so_far image (no_other image left))

    -- a run after a run
    pub tears-joined : (second : List (ℕ × ℕ)) → Tears second mid new → Tears (first ++ second) old new
    tears-joined second run = joined old mid new (IsTorn (first ++ second) old)
        (weaker old mid (IsTorn first old) (IsTorn (first ++ second) old) (λ image torn. record {
          was = torn.was;
          left = torn.left;
          differs = DiffersIn-append first second torn.was image image torn.differs (DiffersIn-refl second image);
        }) so_far)
        (weaker mid new (IsTorn second mid) (IsTorn (first ++ second) old) (λ image torn.
        let from = now old mid (IsTorn first old) knows so_far torn.was torn.left in
        record { was = from.was; left = from.left; differs = DiffersIn-append first second from.was torn.was image from.differs torn.differs }) run)

    -- a write within the ranges
    pub tears-more : (at count : ℕ) → Covers first at count → Tears ((at, count) ∷ []) mid new → Tears first old new
    tears-more at count covers run = joined old mid new (IsTorn first old) so_far
        (weaker mid new (IsTorn ((at, count) ∷ []) mid) (IsTorn first old) (λ image torn.
        let from = now old mid (IsTorn first old) knows so_far torn.was torn.left in
        record { was = from.was; left = from.left; differs = DiffersIn-covered first at count from.was torn.was image covers from.differs torn.differs }) run)

pub on_ok : {T E A : Type 0} (result : Result T E) → A → OnOk result A
on_ok (Ok value) has = has
on_ok (Err error) has = tt

-- a result that is an error owes nothing at Ok
pub on_err : {T E : Type 0} (result : Result T E) (A : Type 0) → IsErr result → OnOk result A
on_err (Ok value) A is = absurd (cc)
on_err (Err error) A is = tt

module _ {T E : Type 0} (old new : Told) (result : Result T E) where
  -- writes that leave the map however they are torn
  pub keeps-torn : (ranges : List (ℕ × ℕ)) → Tears ranges old new
      → ((found : SlotMap) (image : List ℕ) → StandsFor old.content found → DiffersIn ranges old.content image → StandsFor image found)
      → OnOk result (DiffersIn ranges old.content new.content) → (NothingPending old → OnOk result (NothingPending new)) → KeepsMap old new result
  keeps-torn ranges run stays differs durable = record {
    map = λ found is. on_ok_weaker result (stays found new.content is) differs;
    any_moment = λ only found is. weaker old new (DiffersIn ranges old.content) (λ image. StandsFor image found) (λ image. stays found image is)
        (tears-content old new ranges only run);
    durable = durable;
  }

-- the same where the run failed
pub keeps-failed : {T E : Type 0} (old new : Told) (result : Result T E) → IsErr result → (ranges : List (ℕ × ℕ)) → Tears ranges old new
    → ((found : SlotMap) (image : List ℕ) → StandsFor old.content found → DiffersIn ranges old.content image → StandsFor image found) → KeepsMap old new result
keeps-failed old new result failed ranges run stays = keeps-torn old new result ranges run stays (on_err result _ failed) (λ only. on_err result _ failed)

-- calls that only read
pub keeps-read : {T E : Type 0} (old new : Told) (result : Result T E) → KnowsNow old → OnlyReads old new → KeepsMap old new result
keeps-read old new result knows reads = record {
  map = λ found is. on_ok result (rw reads.same.content is);
  any_moment = λ only found is. weaker old new old.may_leave (λ image. StandsFor image found) (of_content old (λ image. StandsFor image found) only is)
      (read_leaves old new knows reads);
  durable = λ only. on_ok result (nothing_pending-same old new reads.same only);
}

-- the same of a call that failed because a step did
pub keeps-err : {T E S : Type 0} (old new : Told) (step : Result S E) (result : Result T E) → IsErr result → KeepsMap old new step → KeepsMap old new result
keeps-err old new step result failed keeps = record {
  map = λ found is. on_err result _ failed;
  any_moment = keeps.any_moment;
  durable = λ only. on_err result _ failed;
}

module _ {T E : Type 0} (old mid new : Told) (result : Result T E) {S : Type 0} (value : S) where
  pub keeps-joined : KeepsMap {T = S} {E = E} old mid (Ok value) → KeepsMap mid new result → KeepsMap old new result
  keeps-joined first second = record {
    map = λ found is. second.map found (first.map found is);
    any_moment = λ only found is. joined old mid new (λ image. StandsFor image found) (first.any_moment only found is)
        (second.any_moment (first.durable only) found (first.map found is));
    durable = λ only. second.durable (first.durable only);
  }

-- a sync, and then calls that keep the map
module _ (old mid : Told) (knows : KnowsNow old) (time : Elapses old mid) (no_other : (image : List ℕ) → mid.may_leave image → old.may_leave image) where
  -- until the sync has answered a crash leaves an image from before
  before_sync : LeavesOnly old mid old.may_leave
  before_sync = goes_on old old mid old.may_leave (at_start old old.may_leave knows (λ image is. is)) time no_other

  -- with nothing pending that is the content
  kept_before : NothingPending old → (found : SlotMap) → StandsFor old.content found → LeavesOnly old mid (λ image. StandsFor image found)
  kept_before only found is = weaker old mid old.may_leave (λ image. StandsFor image found) (of_content old (λ image. StandsFor image found) only is)
      before_sync

  left_before : (found : SlotMap) → LeavesOnly old mid (λ image. old.may_leave image ⊎ StandsFor image found)
  left_before found = weaker old mid old.may_leave (λ image. old.may_leave image ⊎ StandsFor image found) (λ image left. inl left) before_sync

  module _ {T E : Type 0} (result : Result T E) where
    -- a sync that failed
    pub keeps-sync_failed : IsErr result → KeepsMap old mid result
    keeps-sync_failed failed = record {
      map = λ found is. on_err result _ failed;
      any_moment = kept_before;
      durable = λ only. on_err result _ failed;
    }

    pub durable-sync_failed : IsErr result → MakesDurable old mid result
    durable-sync_failed failed = record { durable = on_err result _ failed; any_moment = λ born found is. left_before found }

    -- one that answered
    module _ (new : Told) (same : mid.content ≡ old.content) (only : NothingPending mid) (keeps : KeepsMap mid new result) where
      stands : (found : SlotMap) → StandsFor old.content found → StandsFor mid.content found
      stands found is = rw same is

      pub keeps-synced : KeepsMap old new result
      keeps-synced = record {
        map = λ found is. keeps.map found (stands found is);
        any_moment = λ none found is. joined old mid new (λ image. StandsFor image found) (kept_before none found is)
            (keeps.any_moment only found (stands found is));
        durable = λ none. keeps.durable only;
      }

      pub durable-synced : MakesDurable old new result
      durable-synced = record {
        durable = keeps.durable only;
        any_moment = λ born found is.
            let P : List ℕ → Type 0 = λ image. old.may_leave image ⊎ StandsFor image found in
            joined old mid new P (left_before found) (weaker mid new (λ image. StandsFor image found) P (λ image stood. inr stood)
            (keeps.any_moment only found (stands found is)));
      }
