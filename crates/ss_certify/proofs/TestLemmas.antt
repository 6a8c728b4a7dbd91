-- Tests in a row.
use Rattle.std.specs.Prelude.{◌≡◌, ◌↔◌, ◌⊎◌, Bool, true, false, IsTrue}
use Rattle.std.proofs.Common.{inl, inr, rules}

module _ {P Q : Type 0} (a : Bool) where
  -- the first of two tests that both have to pass is passed, or isn't
  pub both-passed : (b : Bool) → a ≡ true → (IsTrue a ↔ P) → (IsTrue b ↔ Q) → IsTrue b ↔ (P × Q)
  both-passed b passed first second = ((λ t. (first.0 (rw passed (search rules)), second.0 t)), (λ p. second.1 p.1))

  pub both-failed : a ≡ false → (IsTrue a ↔ P) → IsTrue a ↔ (P × Q)
  both-failed failed first = ((λ t. absurd (search rules)), (λ p. first.1 p.0))

  -- the first of two tests of which one has to pass
  pub either-passed : a ≡ true → (IsTrue a ↔ P) → IsTrue a ↔ (P ⊎ Q)
  either-passed passed first = ((λ t. inl (first.0 t)), (λ p. rw passed (search rules)))

  pub either-failed : (b : Bool) → a ≡ false → (IsTrue a ↔ P) → (IsTrue b ↔ Q) → IsTrue b ↔ (P ⊎ Q)
  either-failed b failed first second = ((λ t. inr (second.0 t)), (λ p. elim p [ inl x ↦ absurd (search rules) | inr y ↦ second.1 y ]))
