-- Steps of a disk, one after another.
use Rattle.std.proofs.Common.{◌≡◌, refl, ◌∙◌, ℕ, List, Result, Ok, Err, ⊎_elim, arith}
use Rattle.std.specs.Prelude.{IsTrue}
use Rattle.ss_outside.specs.Disk.{DiskView, SyncsAtMost, Told}
use Rattle.ss_outside.specs.Step.{Step, Syncs, WritesAt}
use Rattle.ss_outside.specs.Verdict.{Verdict, fine}
use Rattle.ss_outside.specs.declared.source.Failed.{Failed}

-- no call
pub step-none : (disk : DiskView) (S : Told → Told → Type 0) → (IsTrue disk.tells → S disk.told disk.told) → Step fine disk disk S
step-none disk S is = record { tells = refl; counted = refl; told = is }

module _ {old new : DiskView} {v : Verdict} {R S : Told → Told → Type 0} where
  -- what follows of a step where the disk tells
  pub step-as : Step v old new R → (R old.told new.told → S old.told new.told) → Step v old new S
  step-as step gives = record { tells = step.tells; counted = step.counted; told = λ told. gives (step.told told) }

  -- the same by another answer of the same verdict
  pub step-verdict : {w : Verdict} → v ≡ w → Step v old new R → (R old.told new.told → S old.told new.told) → Step w old new S
  step-verdict same step gives = record {
    tells = step.tells;
    counted = rw same at step.counted;
    told = λ told. gives (step.told told);
  }

module _ {old mid new : DiskView} {v : Verdict} {R Q S : Told → Told → Type 0} where
  -- one step after another that was fine
  pub step-then : Step fine old mid R → Step v mid new Q → (R old.told mid.told → Q mid.told new.told → S old.told new.told) → Step v old new S
  step-then first second joins = record {
    tells = second.tells ∙ first.tells;
    counted = rw first.counted at second.counted;
    told = λ told. joins (first.told told) (second.told (first.tells ∙ told));
  }

module _ {old new : Told} where
  -- a write syncs nothing, and a sync once at most
  pub syncs-written : {at : ℕ} {bytes : List ℕ} (result : Result (Unit {0}) Failed) → WritesAt at bytes result old new → new.syncs ≡ old.syncs
  syncs-written result wrote = ⊎_elim (λ pending. pending.syncs) (λ none. none.1.syncs) wrote.pending

  pub syncs-once : (result : Result (Unit {0}) Failed) → Syncs result old new → SyncsAtMost 1 old new
  syncs-once (Ok done) synced = omega (arith, synced.syncs)
  syncs-once (Err e) synced = omega (arith, synced.pending.syncs)
