-- The steps of a call, one after another: what they leave of the disk, and of the map.
use Rattle.ss_journal.proofs.Common.{Err, IsTrue, List, Ok, Result, [], ap, length, sym, ℕ, ◌∙◌, ◌∷◌, on_ok_weaker, IsErr, OnOk, reads-joined}
use Rattle.ss_journal.proofs.Common.{KnowsNow, OnlyReads, NothingPending, Told, overwrite, Step, Syncs, failed, fine, refused, Failed, SlotMap, StandsFor}
use Rattle.ss_journal.proofs.Common.{Durably, Finds, Reaches, Rewrites, Writes, DiffersIn}
use Rattle.ss_outside.specs.Disk.{DiskView}
use Rattle.ss_outside.specs.Verdict.{Verdict, verdict}
use Rattle.ss_journal.proofs.TearLemmas.{keeps-err, keeps-failed, keeps-joined, keeps-read, keeps-torn, on_err, on_ok, tears-after_read, tears-synced}

module _ {old new : DiskView} {R S : Told → Told → Type 0} where
  -- what follows of a step where the disk tells
  pub step-from : {v : Verdict} → Step v old new R → (IsTrue old.tells → R old.told new.told → S old.told new.told) → Step v old new S
  step-from step gives = record { tells = step.tells; counted = step.counted; told = λ told. gives told (step.told told) }

  -- the same of a call that then refuses
  pub step-refused : Step fine old new R → (IsTrue old.tells → R old.told new.told → S old.told new.told) → Step refused old new S
  step-refused step gives = record { tells = step.tells; counted = step.counted; told = λ told. gives told (step.told told) }

  -- the same of a call that fails because the step did
  pub step-failed : {T : Type 0} (result : Result T Failed) → IsErr result → Step failed old new R
      → (IsTrue old.tells → R old.told new.told → S old.told new.told) → Step (verdict result) old new S
  step-failed (Ok value) is step gives = absurd (cc)
  step-failed (Err e) is step gives = step-from step gives

-- what is so after a step, where the disk tells
pub after-step : {old new : DiskView} {v : Verdict} {R : Told → Told → Type 0} {A : Type 0} → Step v old new R
    → (IsTrue old.tells → R old.told new.told → A) → IsTrue new.tells → A
after-step step gives told = let before = sym step.tells ∙ told in gives before (step.told before)

-- one step after another that was fine
pub step-next : {old mid new : DiskView} {v : Verdict} {R Q S : Told → Told → Type 0} → Step fine old mid R → Step v mid new Q
    → (IsTrue old.tells → IsTrue mid.tells → R old.told mid.told → Q mid.told new.told → S old.told new.told) → Step v old new S
step-next {old} {mid} {new} {v} first second joins = record {
  tells = second.tells ∙ first.tells;
  counted = rw first.counted at second.counted;
  told = λ told. let then = first.tells ∙ told in joins told then (first.told told) (second.told then);
}

-- the facts of both
pub step-pair : {old mid new : DiskView} {v : Verdict} {R Q : Told → Told → Type 0} → Step fine old mid R → Step v mid new Q
    → Step v old new (λ _ _. IsTrue mid.tells × R old.told mid.told × Q mid.told new.told)
step-pair first second = step-next first second (λ told then has gives. (then, has, gives))

-- the same where the second failed
pub step-next_failed : {old mid new : DiskView} {R Q S : Told → Told → Type 0} {T : Type 0} (result : Result T Failed) → IsErr result → Step fine old mid R
    → Step failed mid new Q → (IsTrue old.tells → IsTrue mid.tells → R old.told mid.told → Q mid.told new.told → S old.told new.told)
    → Step (verdict result) old new S
step-next_failed (Ok value) is first second joins = absurd (cc)
step-next_failed (Err e) is first second joins = step-next first second joins

module _ {old new : Told} {ranges : List (ℕ × ℕ)} {made : List ℕ} where
  -- writes that failed
  pub rewrites-failed : {step : Result (Unit {0}) Failed} {other : List ℕ} (result : Result (Unit {0}) Failed) → IsErr result
      → Rewrites ranges made step old new → Rewrites ranges other result old new
  rewrites-failed result is step = record { tears = step.tears; written = on_err result _ is }

  -- writes that leave the map, however they are torn
  pub reaches-rewritten : (P : List ℕ → List ℕ → Type 0) (result : Result (Unit {0}) Failed) → Rewrites ranges made result old new
      → (NothingPending old → OnOk result (NothingPending new))
      → ((found : SlotMap) (image : List ℕ) → StandsFor old.content found → DiffersIn ranges old.content image → StandsFor image found)
      → DiffersIn ranges old.content made → P old.content made → Reaches P result old new
  reaches-rewritten P result step durable stays differs has = record {
    keeps_map = keeps-torn old new result ranges step.tears stays (on_ok_weaker result (λ is. rw is differs) step.written) durable;
    reached = on_ok_weaker result (λ is. rw is has) step.written;
  }

  -- the same of writes that failed
  pub reaches-torn : {step : Result (Unit {0}) Failed} (P : List ℕ → List ℕ → Type 0) (result : Result (Unit {0}) Failed) → IsErr result
      → Rewrites ranges made step old new
      → ((found : SlotMap) (image : List ℕ) → StandsFor old.content found → DiffersIn ranges old.content image → StandsFor image found)
      → Reaches P result old new
  reaches-torn P result is step stays = record { keeps_map = keeps-failed old new result is ranges step.tears stays; reached = on_err result _ is }

-- writes after a read
pub writes-after_read : {result : Result (Unit {0}) Failed} (at : ℕ) (bytes : List ℕ) (old mid new : Told) → KnowsNow old → OnlyReads old mid
    → Writes at bytes result mid new → Writes at bytes result old new
writes-after_read {result} at bytes old mid new knows reads step = record {
  tears = tears-after_read old mid new ((at, length bytes) ∷ []) knows reads step.tears;
  written = on_ok_weaker result (λ is. is ∙ ap (λ (list : List ℕ). overwrite list at bytes) reads.same.content) step.written;
}

-- writes, and then a sync
pub rewrites-synced : {old mid new : Told} {ranges : List (ℕ × ℕ)} {made : List ℕ} (value : Unit {0}) (result : Result (Unit {0}) Failed)
    → Rewrites ranges made (Ok value) old mid → KnowsNow mid → Syncs result mid new → Rewrites ranges made result old new
rewrites-synced {old} {mid} {new} {ranges} value result step knows synced = record {
  tears = tears-synced old mid new ranges knows step.tears synced.time synced.no_other;
  written = on_ok result (synced.content ∙ step.written);
}

module _ {P Q : List ℕ → List ℕ → Type 0} where
  -- a call that failed because a step did
  pub reaches-failed : {old new : Told} {step : Result (Unit {0}) Failed} (result : Result (Unit {0}) Failed) → IsErr result → Reaches P step old new
      → Reaches Q result old new
  reaches-failed {old} {new} {step} result is reaches = record { keeps_map = keeps-err old new step result is reaches.keeps_map; reached = on_err result _ is }

  -- the same of what is reached
  pub reaches-also : {old new : Told} (result : Result (Unit {0}) Failed) → Reaches P result old new
      → (P old.content new.content → Q old.content new.content) → Reaches Q result old new
  reaches-also result reaches gives = record { keeps_map = reaches.keeps_map; reached = on_ok_weaker result gives reaches.reached }

  -- one step after another
  pub reaches-joined : {old mid new : Told} {S : List ℕ → List ℕ → Type 0} (value : Unit {0}) (result : Result (Unit {0}) Failed)
      → Reaches P (Ok value) old mid → Reaches Q result mid new
      → (P old.content mid.content → Q mid.content new.content → S old.content new.content) → Reaches S result old new
  reaches-joined {old} {mid} {new} value result first second joins = record {
    keeps_map = keeps-joined old mid new result value first.keeps_map second.keeps_map;
    reached = on_ok_weaker result (joins first.reached) second.reached;
  }

-- a call that was to leave nothing pending, and failed because a step did
pub durably-failed : {P Q : List ℕ → List ℕ → Type 0} {old new : Told} {step : Result (Unit {0}) Failed} (result : Result (Unit {0}) Failed) → IsErr result
    → Reaches P step old new → Durably (Reaches Q) result old new
durably-failed result is reaches = record { step = reaches-failed result is reaches; durable = on_err result _ is }

-- a call that only read
pub reaches-read : {old new : Told} (P : List ℕ → List ℕ → Type 0) (result : Result (Unit {0}) Failed) → KnowsNow old → OnlyReads old new
    → P old.content old.content → Reaches P result old new
reaches-read {old} {new} P result knows reads has = record {
  keeps_map = keeps-read old new result knows reads;
  reached = on_ok result (rw reads.same.content has);
}

-- a read after a read
pub finds-joined : {P Q S : List ℕ → Type 0} {old mid new : Told} → Finds P old mid → Finds Q mid new
    → (P old.content → Q old.content → S old.content) → Finds S old new
finds-joined {P} {Q} {S} {old} {mid} {new} first second joins = record {
  found = joins first.found (rw first.reads.same.content at second.found);
  reads = reads-joined old mid new first.reads second.reads;
}
