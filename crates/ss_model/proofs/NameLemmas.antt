-- Names that are the same, and names that aren't.
use Rattle.ss_model.proofs.Common.{◌≡◌, ◌≢◌, ℕ, true, false, List, refl, sym, inl, inr, cases_Bool, same_name}
use Rattle.std.specs.Bool.{Decides}
use Rattle.std.proofs.lemmas.Bool.Decides.{same_from_decides}
use Rattle.std.proofs.lemmas.Slice.Eq.{bytes_eq-Decides}

pub same_name-Decides : (a b : List ℕ) → Decides (same_name a b) (a ≡ b)
same_name-Decides a b = bytes_eq-Decides a b

pub same_name-same : (a : List ℕ) → same_name a a ≡ true
same_name-same a = (same_name-Decides a a).1 refl

pub same_name-swap : (a b : List ℕ) → same_name a b ≡ same_name b a
same_name-swap a b =
    let there = same_name-Decides a b in
    let back = same_name-Decides b a in
    same_from_decides (same_name a b) (same_name b a) there ((λ same. sym (back.0 same)), (λ same. back.1 (sym same)))

pub same_name-differ : (a b : List ℕ) → a ≢ b → same_name a b ≡ false
same_name-differ a b apart = elim (cases_Bool (same_name a b)) [
  | inl same ↦ absurd (apart ((same_name-Decides a b).0 same))
  | inr other ↦ other
]
