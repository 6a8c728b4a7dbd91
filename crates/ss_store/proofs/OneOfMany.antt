-- One element of a list, and the others.
use Rattle.ss_store.proofs.Common.{◌≡◌, ℕ, zero, suc, ◌<◌, List, [], ◌∷◌, ◌++◌, length, map, flat_map, remove, slice_set, zip, refl, ap, sym, ◌∙◌}
use Rattle.ss_store.proofs.Common.{arith, IsPermutation, Some, IsPermutation-append_comm, IsPermutation-append_left, IsPermutation-append_right}
use Rattle.ss_store.proofs.Common.{IsPermutation-refl, IsPermutation-trans, none-some, same_Some}
use Rattle.std.proofs.Common.{slice_get}
use Rattle.std.proofs.lemmas.List.{append_assoc}

-- two pieces change places before a third
IsPermutation-exchange : {X : Type 0} (xs ys zs : List X) → IsPermutation (xs ++ (ys ++ zs)) (ys ++ (xs ++ zs))
IsPermutation-exchange xs ys zs =
    rw (← append_assoc xs ys zs, ← append_assoc ys xs zs)
    (IsPermutation-append_left zs (xs ++ ys) (ys ++ xs) (IsPermutation-append_comm xs ys))

-- what is made of the element at a place, and of the others
pub IsPermutation-parted : {X Y : Type 0} (f : X → List Y) (xs : List X) (i : ℕ) (x : X) → slice_get xs i ≡ Some x →
    IsPermutation (f x ++ flat_map f (remove xs i)) (flat_map f xs)
IsPermutation-parted f [] i x at = absurd (none-some x at)
IsPermutation-parted f (y ∷ ys) zero x at = rw (← (same_Some y x at)) (IsPermutation-refl (f y ++ flat_map f ys))
IsPermutation-parted f (y ∷ ys) (suc i) x at =
    IsPermutation-trans (f x ++ (f y ++ flat_map f (remove ys i))) (f y ++ (f x ++ flat_map f (remove ys i))) (f y ++ flat_map f ys)
    (IsPermutation-exchange (f x) (f y) (flat_map f (remove ys i)))
    (IsPermutation-append_right (f y) (f x ++ flat_map f (remove ys i)) (flat_map f ys) (IsPermutation-parted f ys i x at))

-- the others stay where an element is replaced
pub remove-set : {X : Type 0} (xs : List X) (i : ℕ) (x : X) → remove (slice_set xs i x) i ≡ remove xs i
remove-set [] zero x = refl
remove-set [] (suc i) x = refl
remove-set (y ∷ ys) zero x = refl
remove-set (y ∷ ys) (suc i) x = ap (λ l. y ∷ l) (remove-set ys i x)

pub slice_get-set : {X : Type 0} (xs : List X) (i : ℕ) (x : X) → i < length xs → slice_get (slice_set xs i x) i ≡ Some x
slice_get-set [] i x inside = absurd (omega arith)
slice_get-set (y ∷ ys) zero x inside = refl
slice_get-set (y ∷ ys) (suc i) x inside = slice_get-set ys i x (omega arith)

-- an element in its own place
pub set-same : {X : Type 0} (xs : List X) (i : ℕ) (x : X) → slice_get xs i ≡ Some x → slice_set xs i x ≡ xs
set-same [] i x at = absurd (none-some x at)
set-same (y ∷ ys) zero x at = ap (λ z. z ∷ ys) (sym (same_Some y x at))
set-same (y ∷ ys) (suc i) x at = ap (λ l. y ∷ l) (set-same ys i x at)

-- what is the same of an element and of the one that replaces it is the same of all
pub map-set_same : {X Y : Type 0} (f : X → Y) (xs : List X) (i : ℕ) (x now : X) → slice_get xs i ≡ Some x → f now ≡ f x →
    map f (slice_set xs i now) ≡ map f xs
map-set_same f [] i x now at same = absurd (none-some x at)
map-set_same f (y ∷ ys) zero x now at same = ap (λ z. z ∷ map f ys) (same ∙ ap f (sym (same_Some y x at)))
map-set_same f (y ∷ ys) (suc i) x now at same = ap (λ l. f y ∷ l) (map-set_same f ys i x now at same)

-- pairs
pub slice_get-zip : {X Y : Type 0} (xs : List X) (ys : List Y) (i : ℕ) (x : X) (y : Y) → slice_get xs i ≡ Some x → slice_get ys i ≡ Some y →
    slice_get (zip xs ys) i ≡ Some (x, y)
slice_get-zip [] ys i x y first second = absurd (none-some x first)
slice_get-zip (u ∷ us) [] i x y first second = absurd (none-some y second)
slice_get-zip (u ∷ us) (v ∷ vs) zero x y first second =
    let a = same_Some u x first in
    let b = same_Some v y second in
    λ i. Some (a i, b i)
slice_get-zip (u ∷ us) (v ∷ vs) (suc i) x y first second = slice_get-zip us vs i x y first second

pub zip-set : {X Y : Type 0} (xs : List X) (ys : List Y) (i : ℕ) (x : X) (y : Y) →
    zip (slice_set xs i x) (slice_set ys i y) ≡ slice_set (zip xs ys) i (x, y)
zip-set [] ys i x y = refl
zip-set (u ∷ us) [] zero x y = refl
zip-set (u ∷ us) [] (suc i) x y = refl
zip-set (u ∷ us) (v ∷ vs) zero x y = refl
zip-set (u ∷ us) (v ∷ vs) (suc i) x y = ap (λ l. (u, v) ∷ l) (zip-set us vs i x y)

pub slice_get-within : {X : Type 0} (xs : List X) (i : ℕ) → i < length xs → (x : X) × (slice_get xs i ≡ Some x)
slice_get-within [] i inside = absurd (omega arith)
slice_get-within (x ∷ xs) zero inside = (x, refl)
slice_get-within (x ∷ xs) (suc i) inside = slice_get-within xs i (omega arith)
