-- Steps in a row, where the disk tells.
use Rattle.ss_program.proofs.Common.{◌∙◌, IsTrue, DiskView, Told, Step, Verdict, fine}

module _ {old mid new : DiskView} {v : Verdict} {R Q S : Told → Told → Type 0} where
  -- one step after another that was fine: at its end the disk tells as well
  pub step-told : Step fine old mid R → Step v mid new Q →
      (IsTrue mid.tells → R old.told mid.told → Q mid.told new.told → S old.told new.told) → Step v old new S
  step-told first second joins = record {
    tells = second.tells ∙ first.tells;
    counted = rw first.counted at second.counted;
    told = λ told. joins (first.tells ∙ told) (first.told told) (second.told (first.tells ∙ told));
  }

module _ {old now then new : DiskView} {v : Verdict} {R Q P S : Told → Told → Type 0} where
  -- three of them
  pub step-third : Step fine old now R → Step fine now then Q → Step v then new P →
      (IsTrue then.tells → R old.told now.told → Q now.told then.told → P then.told new.told → S old.told new.told) → Step v old new S
  step-third first second third joins =
      step-told (step-told {S = λ a b. R a now.told × Q now.told b} first second (λ told r q. (r, q))) third (λ told both p. joins told both.0 both.1 p)

module _ {old new : DiskView} {v : Verdict} {R S : Told → Told → Type 0} where
  -- what follows of a step at whose start the disk tells, or at whose end
  pub step-given : Step v old new R → (IsTrue old.tells → R old.told new.told → S old.told new.told) → Step v old new S
  step-given step gives = record { tells = step.tells; counted = step.counted; told = λ told. gives told (step.told told) }

  pub step-so : Step v old new R → (IsTrue new.tells → R old.told new.told → S old.told new.told) → Step v old new S
  step-so step gives = step-given step (λ told. gives (step.tells ∙ told))
