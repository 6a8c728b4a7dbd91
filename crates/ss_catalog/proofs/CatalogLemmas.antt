-- What is left of the names without one.
use Rattle.std.proofs.Common.{◌≡◌, ℕ, false, List, [], ◌∷◌, map, refl, ap, subst, sym, inl, inr}
use Rattle.std.proofs.lemmas.Bool.{cases_Bool}
use Rattle.std.proofs.lemmas.Map.Keys.{IsDistinct-head, IsDistinct-tail}
use Rattle.std.proofs.lemmas.Slice.Eq.{bytes_eq-Decides}
use Rattle.std.specs.List.{AllByRecursion}
use Rattle.std.specs.Map.{remove_entry}
use Rattle.ss_catalog.specs.Catalog.{HasDistinctNames, without_name}
use Rattle.ss_catalog.specs.Names.{same_name}
use Rattle.ss_catalog.specs.declared.stream_id.StreamId.{StreamId}

-- a name that isn't there is not taken out
without_name-absent : (name : List ℕ) (names : List (List ℕ × StreamId))
    → AllByRecursion (λ other. same_name name other ≡ false) (map (λ e. e.0) names) → without_name name names ≡ names
without_name-absent name [] others = refl
without_name-absent name (e ∷ names) others = rw others.0 (ap (λ rest. e ∷ rest) (without_name-absent name names others.1))

-- where no name is there twice, the first entry of a name is the only one
pub remove_entry-without_name : (name : List ℕ) (names : List (List ℕ × StreamId)) → HasDistinctNames names
    → remove_entry (same_name name) names ≡ without_name name names
remove_entry-without_name name [] distinct = refl
remove_entry-without_name name (e ∷ names) distinct = elim (cases_Bool (same_name name e.0)) [
  | inl here ↦
      let same : name ≡ e.0 = (bytes_eq-Decides name e.0).0 here in
      let others = IsDistinct-head same_name e.0 (map (λ e. e.0) names) distinct in
      let apart = subst (λ (other : List ℕ). AllByRecursion (λ another. same_name other another ≡ false) (map (λ e. e.0) names)) (sym same) others in
      rw here (sym (without_name-absent name names apart))
  | inr other ↦ rw other (ap (λ rest. e ∷ rest) (remove_entry-without_name name names (IsDistinct-tail same_name e.0 (map (λ e. e.0) names) distinct)))
]
