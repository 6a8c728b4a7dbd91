-- What one value more makes of a tally, and which values of a list at rising times lie in a range.
use Rattle.std.proofs.Common.{◌≡◌, ◌∙◌, sym, ap, subst, refl, ℕ, zero, suc, ◌+◌, ◌-◌, ◌*◌, ◌^◌, ◌<◌, ◌≤◌, ℤ, pos, neg_ℤ, ◌+ℤ◌, ◌≤ℤ◌, Bool, true}
use Rattle.std.proofs.Common.{false, List, [], ◌∷◌, ◌++◌, length, Option, Some, None, arith, get_or, take, drop, map}
use Rattle.std.specs.Prelude.{FitsSigned}
use Rattle.std.specs.Int.{w64, w128}
use Rattle.std.specs.List.{filter, All}
use Rattle.std.proofs.lemmas.List.{length-drop, length-take-le, get_or-take, get_or-drop, take-append-drop, append-nil, get_or-map, length-map}
use Rattle.std.proofs.lemmas.List.{drop-map, take-map}
use Rattle.std.specs.List.Sorted.{IsNonDecreasingBy}
use Rattle.std.proofs.lemmas.Bool.{le-leb, lt-leb, cond-true, cond-false, and_left, and_right, and_from}
use Rattle.std.proofs.lemmas.Int.{ints, clamps}
use Rattle.std.proofs.lemmas.List.Elements.{filter-append}
use Rattle.ss_landmarks.specs.Landmark.{LandmarkValue}
use Rattle.ss_landmarks.specs.Order.{RiseFrom}
use Rattle.ss_landmarks.specs.Stored.{bare_value}
use Rattle.ss_landmarks.specs.declared.stored.StoredValue.{StoredValue}
use Rattle.ss_landmarks.specs.ValuesIn.{lies_in, total, least, greatest, least_with, greatest_with}

pub total_push : (values : List LandmarkValue) (value : LandmarkValue) → total (values ++ value ∷ []) ≡ total values +ℤ value.v
total_push [] value = omega (arith, ints)
total_push (x ∷ values) value = let rest = total_push values value in omega (arith, ints)

least_with-least_with : (a b : ℤ) (o : Option ℤ) → least_with a (Some (least_with b o)) ≡ least_with b (Some (least_with a o))
least_with-least_with a b None = omega (arith, ints, clamps)
least_with-least_with a b (Some c) = omega (arith, ints, clamps)

greatest_with-greatest_with : (a b : ℤ) (o : Option ℤ) → greatest_with a (Some (greatest_with b o)) ≡ greatest_with b (Some (greatest_with a o))
greatest_with-greatest_with a b None = omega (arith, ints, clamps)
greatest_with-greatest_with a b (Some c) = omega (arith, ints, clamps)

pub least_push : (values : List LandmarkValue) (value : LandmarkValue) → least (values ++ value ∷ []) ≡ Some (least_with value.v (least values))
least_push [] value = refl
least_push (x ∷ values) value = ap Some (ap (least_with x.v) (least_push values value) ∙ least_with-least_with x.v value.v (least values))

pub greatest_push : (values : List LandmarkValue) (value : LandmarkValue) → greatest (values ++ value ∷ []) ≡ Some (greatest_with value.v (greatest values))
greatest_push [] value = refl
greatest_push (x ∷ values) value = ap Some (ap (greatest_with x.v) (greatest_push values value) ∙ greatest_with-greatest_with x.v value.v (greatest values))

-- a sum of values of 64 bits, one more of them, and that it is far within 128 bits
module _ (n : ℕ) (sum v : ℤ) (low : neg_ℤ (pos (2 ^ 63 * n)) ≤ℤ sum) (high : sum ≤ℤ pos (2 ^ 63 * n)) (fits : FitsSigned w64 v) where
  pub sum_low : neg_ℤ (pos (2 ^ 63 * (n + 1))) ≤ℤ (sum +ℤ v)
  sum_low = omega (arith, ints)

  pub sum_high : (sum +ℤ v) ≤ℤ pos (2 ^ 63 * (n + 1))
  sum_high = omega (arith, ints)

  pub sum_fits : n < 2 ^ 63 → FitsSigned w128 (sum +ℤ v)
  sum_fits few = omega (arith, ints)

-- ---- the values of a range of time

filter-all : (p : LandmarkValue → Bool) (xs : List LandmarkValue) → All (λ x. p x ≡ true) xs → filter p xs ≡ xs
filter-all p [] all = refl
filter-all p (x ∷ xs) all =
    cond-true (p x) (x ∷ filter p xs) (filter p xs) (all 0 x (omega arith))
    ∙ ap (λ (ys : List LandmarkValue). x ∷ ys) (filter-all p xs (λ k d below. all (suc k) d (omega arith)))

filter-none : (p : LandmarkValue → Bool) (xs : List LandmarkValue) → All (λ x. p x ≡ false) xs → filter p xs ≡ []
filter-none p [] none = refl
filter-none p (x ∷ xs) none =
    cond-false (p x) (x ∷ filter p xs) (filter p xs) (none 0 x (omega arith))
    ∙ filter-none p xs (λ k d below. none (suc k) d (omega arith))

-- those that pass are the ones from i to j
pub filter-between : (p : LandmarkValue → Bool) (xs : List LandmarkValue) (i n : ℕ) → i + n ≤ length xs
    → ((k : ℕ) (d : LandmarkValue) → k < i → p (get_or xs k d) ≡ false)
    → ((k : ℕ) (d : LandmarkValue) → i ≤ k → k < i + n → p (get_or xs k d) ≡ true)
    → ((k : ℕ) (d : LandmarkValue) → i + n ≤ k → k < length xs → p (get_or xs k d) ≡ false)
    → filter p xs ≡ take n (drop i xs)
filter-between p xs i n inside before within after =
    let rest = drop i xs in
    let length-rest : length rest ≡ length xs - i = length-drop i xs in
    let front : filter p (take i xs) ≡ [] = filter-none p (take i xs) (λ k d below.
    let at : k < i = omega (arith, below, length-take-le i xs (omega arith)) in
    ap p (get_or-take i xs k d at) ∙ before k d at) in
    let middle : filter p (take n rest) ≡ take n rest = filter-all p (take n rest) (λ k d below.
    let at : k < n = omega (arith, below, length-take-le n rest (omega (arith, length-rest))) in
    ap p (get_or-take n rest k d at ∙ get_or-drop i xs k d) ∙ within (i + k) d (omega arith) (omega arith)) in
    let end : filter p (drop n rest) ≡ [] = filter-none p (drop n rest) (λ k d below.
    ap p (get_or-drop n rest k d ∙ get_or-drop i xs (n + k) d)
    ∙ after (i + (n + k)) d (omega arith) (omega (arith, below, length-drop n rest, length-rest))) in
    let whole : filter p xs ≡ filter p (take i xs) ++ filter p rest =
    ap (filter p) (sym (take-append-drop i xs)) ∙ filter-append p (take i xs) rest in
    let split : filter p rest ≡ filter p (take n rest) ++ filter p (drop n rest) =
    ap (filter p) (sym (take-append-drop n rest)) ∙ filter-append p (take n rest) (drop n rest) in
    whole ∙ rw (front, split, middle, end) (append-nil (take n rest))

-- ---- values at rising times

pub RiseFrom-earlier : (from to : ℕ) (xs : List LandmarkValue) → to ≤ from → RiseFrom from xs → RiseFrom to xs
RiseFrom-earlier from to [] le rise = tt
RiseFrom-earlier from to (x ∷ xs) le rise = (omega (arith, rise.0), rise.1, rise.2, rise.3)

pub RiseFrom-at : (from : ℕ) (xs : List LandmarkValue) → RiseFrom from xs → All (λ x. from ≤ x.t) xs
RiseFrom-at from [] rise k d below = absurd (omega arith)
RiseFrom-at from (x ∷ xs) rise zero d below = rise.0
RiseFrom-at from (x ∷ xs) rise (suc k) d below =
    let later = RiseFrom-at (x.t + 1) xs rise.3 k d (omega arith) in omega (arith, rise.0, later)

pub RiseFrom-fit : (from : ℕ) (xs : List LandmarkValue) → RiseFrom from xs → All (λ x. FitsSigned w64 x.v) xs
RiseFrom-fit from [] rise k d below = absurd (omega arith)
RiseFrom-fit from (x ∷ xs) rise zero d below = rise.2
RiseFrom-fit from (x ∷ xs) rise (suc k) d below = RiseFrom-fit (x.t + 1) xs rise.3 k d (omega arith)

pub RiseFrom-rises : (from : ℕ) (xs : List LandmarkValue) → RiseFrom from xs → IsNonDecreasingBy (λ x. x.t) xs
RiseFrom-rises from [] rise i j d le below = absurd (omega arith)
RiseFrom-rises from (x ∷ xs) rise zero zero d le below = omega arith
RiseFrom-rises from (x ∷ xs) rise zero (suc j) d le below =
    let later = RiseFrom-at (x.t + 1) xs rise.3 j d (omega arith) in omega (arith, later)
RiseFrom-rises from (x ∷ xs) rise (suc i) zero d le below = absurd (omega arith)
RiseFrom-rises from (x ∷ xs) rise (suc i) (suc j) d le below = RiseFrom-rises (x.t + 1) xs rise.3 i j d (omega arith) (omega arith)

-- the same of values as they are held
module _ (values : List StoredValue) (rise : RiseFrom 0 (map bare_value values)) where
  value-at : (k : ℕ) (d : StoredValue) → k < length values → get_or (map bare_value values) k (bare_value d) ≡ bare_value (get_or values k d)
  value-at k d below = get_or-map bare_value values k d (bare_value d) below

  pub stored-rise : IsNonDecreasingBy (λ value. value.t) values
  stored-rise i j d le below =
      let at_i = ap (λ (value : LandmarkValue). value.t) (value-at i d (omega arith)) in
      let at_j = ap (λ (value : LandmarkValue). value.t) (value-at j d below) in
      omega (arith, RiseFrom-rises 0 (map bare_value values) rise i j (bare_value d) le (omega (arith, below, length-map values bare_value)), at_i, at_j)

  pub stored-fit : All (λ value. FitsSigned w64 value.v) values
  stored-fit k d below =
      let at = ap (λ (value : LandmarkValue). value.v) (value-at k d below) in
      subst (FitsSigned w64) at (RiseFrom-fit 0 (map bare_value values) rise k (bare_value d) (omega (arith, below, length-map values bare_value)))

  -- the values from i on, n of them, are those with time in a..=b
  pub filter-stored : (a b i n : ℕ) → i + n ≤ length values
      → ((k : ℕ) (d : StoredValue) → k < i → (get_or values k d).t < a)
      → ((k : ℕ) (d : StoredValue) → i ≤ k → k < i + n → (a ≤ (get_or values k d).t) × ((get_or values k d).t ≤ b))
      → ((k : ℕ) (d : StoredValue) → i + n ≤ k → k < length values → b < (get_or values k d).t)
      → map bare_value (take n (drop i values)) ≡ filter (lies_in a b) (map bare_value values)
  filter-stored a b i n inside before within after =
      let p = lies_in a b in
      let xs = map bare_value values in
      let stored = λ (d : LandmarkValue). (let value : StoredValue = record { t = d.t; v = d.v; slot = 0 } in value) in
      let at = λ (k : ℕ) (d : LandmarkValue) (below : k < length values). ap p (value-at k (stored d) below) in
      let parts = filter-between p xs i n (omega (arith, inside, length-map values bare_value))
      (λ k d lt. at k d (omega arith) ∙ and_left _ _ (lt-leb a (get_or values k (stored d)).t (before k (stored d) lt)))
      (λ k d le lt. at k d (omega arith) ∙ and_from _ _ (le-leb _ _ (within k (stored d) le lt).0) (le-leb _ _ (within k (stored d) le lt).1))
      (λ k d le lt. let below : k < length values = omega (arith, lt, length-map values bare_value) in
      at k d below ∙ and_right _ _ (lt-leb (get_or values k (stored d)).t b (after k (stored d) le below))) in
      sym (parts ∙ ap (take n) (drop-map bare_value i values) ∙ take-map bare_value n (drop i values))
