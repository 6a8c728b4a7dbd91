-- One element that is taken out of a list.
use Rattle.ss_store.proofs.Common.{◌≡◌, ℕ, zero, suc, ◌<◌, Bool, true, false, not, List, [], ◌∷◌, length, map, filter, remove, zip, refl, ap, sym, ◌∙◌, ◌+◌}
use Rattle.ss_store.proofs.Common.{arith, None, Some, get_or, inl, inr, All, ◌==◌, cases_Bool, AllByRecursion, IsStrictlyIncreasing, All-cons}
use Rattle.ss_store.proofs.Common.{All-head, All-tail, AllPairs-from_increasing, none-some, same_Some, all_weaker}
use Rattle.std.proofs.Common.{slice_get}
use Rattle.std.specs.Prelude.{find}
use Rattle.std.proofs.lemmas.Bool.Decides.{Decides-eqb}
use Rattle.std.proofs.lemmas.Map.Made.{IsDistinct-from_AllPairs}
use Rattle.std.specs.List.{IsDistinct}
use Rattle.std.proofs.lemmas.List.Quantifiers.{all_pairs_remove}
use Rattle.ss_parts.proofs.Lists.{all-from_map, filter-all}

pub map-remove : {X Y : Type 0} (f : X → Y) (xs : List X) (i : ℕ) → map f (remove xs i) ≡ remove (map f xs) i
map-remove f [] zero = refl
map-remove f [] (suc i) = refl
map-remove f (x ∷ xs) zero = refl
map-remove f (x ∷ xs) (suc i) = ap (λ l. f x ∷ l) (map-remove f xs i)

pub zip-remove : {X Y : Type 0} (xs : List X) (ys : List Y) (i : ℕ) → length xs ≡ length ys → zip (remove xs i) (remove ys i) ≡ remove (zip xs ys) i
zip-remove [] [] zero same = refl
zip-remove [] [] (suc i) same = refl
zip-remove [] (y ∷ ys) i same = absurd (omega arith)
zip-remove (x ∷ xs) [] i same = absurd (omega arith)
zip-remove (x ∷ xs) (y ∷ ys) zero same = refl
zip-remove (x ∷ xs) (y ∷ ys) (suc i) same = ap (λ l. (x, y) ∷ l) (zip-remove xs ys i (omega arith))

pub all-remove : {X : Type 0} (P : X → Type 0) (xs : List X) (i : ℕ) → AllByRecursion P xs → AllByRecursion P (remove xs i)
all-remove P [] zero all = tt
all-remove P [] (suc i) all = tt
all-remove P (x ∷ xs) zero all = all.1
all-remove P (x ∷ xs) (suc i) all = (all.0, all-remove P xs i all.1)

pub All-remove : {X : Type 0} (P : X → Type 0) (xs : List X) (i : ℕ) → All P xs → All P (remove xs i)
All-remove P [] zero all = all
All-remove P [] (suc i) all = all
All-remove P (x ∷ xs) zero all = All-tail P x xs all
All-remove P (x ∷ xs) (suc i) all = All-cons P x (remove xs i) (All-head P x xs all) (All-remove P xs i (All-tail P x xs all))

pub IsStrictlyIncreasing-remove : (xs : List ℕ) (i : ℕ) → i < length xs → IsStrictlyIncreasing xs → IsStrictlyIncreasing (remove xs i)
IsStrictlyIncreasing-remove xs i inside rising =
    λ k within. all_pairs_remove (λ x y. x < y) xs i inside (AllPairs-from_increasing xs rising) k (k + 1) 0 (omega arith) within

pub IsDistinct-remove : {K : Type 0} (same : K → K → Bool) (ks : List K) (i : ℕ) → IsDistinct same ks → IsDistinct same (remove ks i)
unfolding IsDistinct
IsDistinct-remove same [] zero distinct = tt
IsDistinct-remove same [] (suc i) distinct = tt
IsDistinct-remove same (k ∷ ks) zero distinct = distinct.1
IsDistinct-remove same (k ∷ ks) (suc i) distinct = (all-remove (λ y. same k y ≡ false) ks i distinct.0, IsDistinct-remove same ks i distinct.1)

pub all-place : {X : Type 0} (P : X → Type 0) (xs : List X) (i : ℕ) (x : X) → AllByRecursion P xs → slice_get xs i ≡ Some x → P x
all-place P [] i x all at = absurd (none-some x at)
all-place P (y ∷ ys) zero x all at = rw (same_Some y x at) at all.0
all-place P (y ∷ ys) (suc i) x all at = all-place P ys i x all.1 at

-- what holds of the second of each pair
pub all-zip : {X Y : Type 0} (P : Y → Type 0) (xs : List X) (ys : List Y) → AllByRecursion P ys → AllByRecursion (λ (p : X × Y). P p.1) (zip xs ys)
all-zip P [] ys all = tt
all-zip P (x ∷ xs) [] all = tt
all-zip P (x ∷ xs) (y ∷ ys) all = (all.0, all-zip P xs ys all.1)

-- among keys that differ, the others have another than one that is taken out
pub others-differ : {X K : Type 0} (same : K → K → Bool) → ((a b : K) → same a b ≡ same b a) → (key : X → K) (xs : List X) (i : ℕ) (x : X) →
    slice_get xs i ≡ Some x → IsDistinct same (map key xs) → AllByRecursion (λ y. same (key x) (key y) ≡ false) (remove xs i)
unfolding IsDistinct
others-differ same swap key [] i x at distinct = absurd (none-some x at)
others-differ same swap key (y ∷ ys) zero x at distinct = rw (same_Some y x at) at (all-from_map (λ k. same (key y) k ≡ false) key ys distinct.0)
others-differ same swap key (y ∷ ys) (suc i) x at distinct = (
  swap (key x) (key y) ∙ all-place (λ u. same (key y) (key u) ≡ false) ys i x (all-from_map (λ k. same (key y) k ≡ false) key ys distinct.0) at,
  others-differ same swap key ys i x at distinct.1,
)

-- what passes no test but the one that is taken out
pub filter-remove : {X : Type 0} (p : X → Bool) (xs : List X) (i : ℕ) (x : X) → slice_get xs i ≡ Some x → p x ≡ true →
    AllByRecursion (λ y. p y ≡ false) (remove xs i) → filter (λ y. not (p y)) xs ≡ remove xs i
filter-remove p [] i x at passes others = absurd (none-some x at)
filter-remove p (y ∷ ys) zero x at passes others =
    let here : p y ≡ true = ap p (same_Some y x at) ∙ passes in
    rw here (filter-all (λ z. not (p z)) ys (all_weaker (λ z. p z ≡ false) (λ z. not (p z) ≡ true) (λ z fails. ap not fails) ys others))
filter-remove p (y ∷ ys) (suc i) x at passes others = rw others.0 (ap (λ l. y ∷ l) (filter-remove p ys i x at passes others.1))

pub find-none : {X : Type 0} (p : X → Bool) (xs : List X) → AllByRecursion (λ y. p y ≡ false) xs → find p xs ≡ None
find-none p [] all = refl
find-none p (x ∷ xs) all = rw all.0 (find-none p xs all.1)

pub find-passes : {X : Type 0} (p : X → Bool) (xs : List X) (x : X) → find p xs ≡ Some x → p x ≡ true
find-passes p [] x found = absurd (cc)
find-passes p (y ∷ ys) x found = elim (cases_Bool (p y)) [
  | inl here ↦ (let same : Some y ≡ Some x = rw here at found in ap p (sym (same_Some y x same)) ∙ here)
  | inr other ↦ find-passes p ys x (rw other at found)
]

-- numbers that rise differ
pub numbers-differ : (numbers : List ℕ) → IsStrictlyIncreasing numbers → IsDistinct (λ a b. a == b) numbers
numbers-differ numbers rising =
    IsDistinct-from_AllPairs Decides-eqb numbers
    (λ i j d below within same. let less : get_or numbers i d < get_or numbers j d = AllPairs-from_increasing numbers rising i j d below within in omega arith)
