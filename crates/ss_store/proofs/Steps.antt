-- Steps of a disk whose answer is told by another error type.
use Rattle.ss_store.proofs.Common.{◌≡◌, ◌∙◌, DiskView, Told, Step, Verdict, fine}
use Rattle.std.specs.Prelude.{IsTrue}

-- a step that was fine and one more, by an answer of the same verdict as the second
pub step-handed : {old mid new : DiskView} {v w : Verdict} {R Q S : Told → Told → Type 0} → v ≡ w → Step fine old mid R → Step v mid new Q →
    (IsTrue old.tells → R old.told mid.told → Q mid.told new.told → S old.told new.told) → Step w old new S
step-handed {old} {mid} {new} {v} same first second joins = record {
  tells = second.tells ∙ first.tells;
  counted = rw (first.counted, same) at second.counted;
  told = λ told. joins told (first.told told) (second.told (first.tells ∙ told));
}
