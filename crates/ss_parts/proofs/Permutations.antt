-- Lists of the same elements in another order, and what goes along with them.
use Rattle.std.proofs.Common.{[], ◌<◌, ◌∷◌, ◌≡◌, arith, Bool, filter, get_or, IsPermutation, length, List, None, Option, set, Some, subst, suc, swap, zero, ℕ}
use Rattle.std.specs.List.{cons_option, filter_map}
use Rattle.std.proofs.lemmas.List.Sorted.{IsPermutation-append_comm, IsPermutation-append_left, IsPermutation-cons, IsPermutation-keeps, IsPermutation-refl}
use Rattle.std.proofs.lemmas.List.Sorted.{IsPermutation-trans}
use Rattle.ss_parts.proofs.Lists.{filter_map-kept, kept}

-- a relation holds along each permutation if it is reflexive and transitive, and goes under a head and over an exchange of
-- the first two
module _ {X : Type 0} (R : List X → List X → Type 0) (same : (xs : List X) → R xs xs)
    (under : (x : X) (xs ys : List X) → R xs ys → R (x ∷ xs) (x ∷ ys)) (turn : (x y : X) (xs : List X) → R (x ∷ y ∷ xs) (y ∷ x ∷ xs))
    (chain : (xs ys zs : List X) → R xs ys → R ys zs → R xs zs) where
  to_head : (xs : List X) (j : ℕ) (x d : X) → j < length xs → R (x ∷ xs) (get_or xs j d ∷ set xs j x)
  to_head [] j x d inside = absurd (omega arith)
  to_head (y ∷ ys) zero x d inside = turn x y ys
  to_head (y ∷ ys) (suc j) x d inside =
      let rest = to_head ys j x d (omega arith) in
      chain (x ∷ y ∷ ys) (y ∷ x ∷ ys) (get_or ys j d ∷ y ∷ set ys j x) (turn x y ys)
      (chain (y ∷ x ∷ ys) (y ∷ get_or ys j d ∷ set ys j x) (get_or ys j d ∷ y ∷ set ys j x)
      (under y (x ∷ ys) (get_or ys j d ∷ set ys j x) rest) (turn y (get_or ys j d) (set ys j x)))

  exchanged : (xs : List X) (i j : ℕ) (d : X) → i < length xs → j < length xs → R xs (set (set xs i (get_or xs j d)) j (get_or xs i d))
  exchanged [] i j d first second = absurd (omega arith)
  exchanged (x ∷ xs) zero zero d first second = same (x ∷ xs)
  exchanged (x ∷ xs) zero (suc j) d first second = to_head xs j x d (omega arith)
  exchanged (x ∷ xs) (suc i) zero d first second = to_head xs i x d (omega arith)
  exchanged (x ∷ xs) (suc i) (suc j) d first second =
      under x xs (set (set xs i (get_or xs j d)) j (get_or xs i d)) (exchanged xs i j d (omega arith) (omega arith))

  swapped : (xs : List X) (i j : ℕ) → i < length xs → j < length xs → R xs (swap xs i j)
  swapped [] i j first second = same []
  swapped (x ∷ xs) i j first second = exchanged (x ∷ xs) i j x first second

  pub along_permutation : (xs ys : List X) → IsPermutation xs ys → R xs ys
  along_permutation xs ys moved =
      IsPermutation-keeps xs (R xs) (same xs) (λ l i j first second before. chain xs l (swap l i j) before (swapped l i j first second)) ys moved

pub IsPermutation-turn : {X : Type 0} (x y : X) (xs : List X) → IsPermutation (x ∷ y ∷ xs) (y ∷ x ∷ xs)
IsPermutation-turn x y xs = IsPermutation-append_left xs (x ∷ y ∷ []) (y ∷ x ∷ []) (IsPermutation-append_comm (x ∷ []) (y ∷ []))

pub IsPermutation-same : {X : Type 0} (xs ys : List X) → xs ≡ ys → IsPermutation xs ys
IsPermutation-same xs ys same = subst (IsPermutation xs) same (IsPermutation-refl xs)

-- what is made of each, where something is
pub IsPermutation-filter_map : {X Y : Type 0} (f : X → Option Y) (xs ys : List X) → IsPermutation xs ys →
    IsPermutation (filter_map f xs) (filter_map f ys)
IsPermutation-filter_map {X} {Y} f =
    along_permutation (λ xs ys. IsPermutation (filter_map f xs) (filter_map f ys)) (λ xs. IsPermutation-refl (filter_map f xs)) (λ x xs ys rest.
    elim (f x) as (λ o. IsPermutation (cons_option o (filter_map f xs)) (cons_option o (filter_map f ys))) [
      | None ↦ rest
      | Some y ↦ IsPermutation-cons y (filter_map f xs) (filter_map f ys) rest
    ]) (λ x y xs.
    let zs = filter_map f xs in
    elim (f x) as (λ o. IsPermutation (cons_option o (cons_option (f y) zs)) (cons_option (f y) (cons_option o zs))) [
      | None ↦ IsPermutation-refl (cons_option (f y) zs)
      | Some u ↦
          elim (f y) as (λ p. IsPermutation (u ∷ cons_option p zs) (cons_option p (u ∷ zs))) [
            | None ↦ IsPermutation-refl (u ∷ zs)
            | Some v ↦ IsPermutation-turn u v zs
          ]
    ]) (λ xs ys zs. IsPermutation-trans _ _ _)

-- what passes a test
pub IsPermutation-filter : {X : Type 0} (p : X → Bool) (xs ys : List X) → IsPermutation xs ys → IsPermutation (filter p xs) (filter p ys)
IsPermutation-filter p xs ys moved =
    subst (λ l. IsPermutation l (filter p ys)) (filter_map-kept p xs)
    (subst (IsPermutation (filter_map (kept p) xs)) (filter_map-kept p ys) (IsPermutation-filter_map (kept p) xs ys moved))
