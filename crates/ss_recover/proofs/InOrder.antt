-- A list in the order of its keys: where its elements are those of a list whose keys rise, it is that list.
use Rattle.ss_recover.proofs.Common.{[], ◌&&◌, ◌++◌, ◌+◌, ◌<◌, ◌∙◌, ◌∷◌, ◌≡◌, ◌≤◌, All-from_recursion, All-permutation, AllByRecursion, AllPairs, ap, arith}
use Rattle.ss_recover.proofs.Common.{Bool, cases_Bool, cases_eq, cases_order, cond, cond-false, cond-true, cond_both, each-behind, eq-eqb, eqb, false, filter}
use Rattle.ss_recover.proofs.Common.{in_order, inl, inr, IsNonDecreasingBy, IsNonDecreasingBy-from_sort, IsPermutation, IsPermutation-cons, IsPermutation-refl}
use Rattle.ss_recover.proofs.Common.{IsPermutation-trans, IsSortedByKey, IsStableByKey, IsStrictlyIncreasing, le-ltb, leb, leb-false, leb-true, List, lt-ltb}
use Rattle.ss_recover.proofs.Common.{ltb, map, nat_le, nat_lt, nat_tests, ne_eqb, not, put_in_order, recursion_from_All, refl, Rises, subst, suc, sum_by}
use Rattle.ss_recover.proofs.Common.{sum_by-cons, sum_by-IsPermutation, sym, ties, true, zero, ℕ}
use Rattle.std.proofs.lemmas.List.Kept.{AllPairs-from_increasing}
use Rattle.std.specs.Ordering.{is_lt, nat_cmp}
use Rattle.ss_parts.proofs.Lists.{all-kept, all_weaker}
use Rattle.ss_parts.proofs.Permutations.{IsPermutation-turn}

module _ {X : Type 0} (key : X → ℕ) where
  -- each key is less than those after it
  abbrev pub Rise : List X → Type 0
  Rise [] = Unit
  Rise (x ∷ xs) = AllByRecursion (λ y. key x < key y) xs × Rise xs

  -- an element put in its place
  all-put_in_order : (P : X → Type 0) (x : X) (ys : List X) → P x → AllByRecursion P ys → AllByRecursion P (put_in_order key x ys)
  all-put_in_order P x [] one all = (one, tt)
  all-put_in_order P x (y ∷ ys) one all =
      cond_both (nat_le (key x) (key y)) (x ∷ y ∷ ys) (y ∷ put_in_order key x ys) (AllByRecursion P)
      (λ le. (one, all)) (λ over. (all.0, all-put_in_order P x ys one all.1))

  Rises-put_in_order : (x : X) (ys : List X) → Rises key ys → Rises key (put_in_order key x ys)
  Rises-put_in_order x [] none = (tt, tt)
  Rises-put_in_order x (y ∷ ys) none =
      cond_both (nat_le (key x) (key y)) (x ∷ y ∷ ys) (y ∷ put_in_order key x ys) (Rises key) (λ test.
      let le = leb-true (key x) (key y) test in
      ((le, all_weaker _ _ (λ z more. omega arith) ys none.0), none)) (λ test.
      let over = leb-false (key x) (key y) test in
      (all-put_in_order (λ z. key y ≤ key z) x ys (omega arith) none.0, Rises-put_in_order x ys none.1))

  IsPermutation-put_in_order : (x : X) (ys : List X) → IsPermutation (x ∷ ys) (put_in_order key x ys)
  IsPermutation-put_in_order x [] = IsPermutation-refl (x ∷ [])
  IsPermutation-put_in_order x (y ∷ ys) =
      cond_both (nat_le (key x) (key y)) (x ∷ y ∷ ys) (y ∷ put_in_order key x ys) (IsPermutation (x ∷ y ∷ ys)) (λ le. IsPermutation-refl (x ∷ y ∷ ys)) (λ over.
      IsPermutation-trans _ _ _ (IsPermutation-turn x y ys) (IsPermutation-cons y (x ∷ ys) (put_in_order key x ys) (IsPermutation-put_in_order x ys)))

  pub all-in_order : (P : X → Type 0) (xs : List X) → AllByRecursion P xs → AllByRecursion P (in_order key xs)
  all-in_order P [] all = tt
  all-in_order P (x ∷ xs) all = all-put_in_order P x (in_order key xs) all.0 (all-in_order P xs all.1)

  pub Rises-in_order : (xs : List X) → Rises key (in_order key xs)
  Rises-in_order [] = tt
  Rises-in_order (x ∷ xs) = Rises-put_in_order x (in_order key xs) (Rises-in_order xs)

  pub IsPermutation-in_order : (xs : List X) → IsPermutation xs (in_order key xs)
  IsPermutation-in_order [] = IsPermutation-refl []
  IsPermutation-in_order (x ∷ xs) =
      IsPermutation-trans _ _ _ (IsPermutation-cons x xs (in_order key xs) (IsPermutation-in_order xs)) (IsPermutation-put_in_order x (in_order key xs))

  -- 1 at each element whose key is below a number
  abbrev below : ℕ → X → ℕ
  below k x = cond (nat_lt (key x) k) 1 0

  below-ge : (k : ℕ) (x : X) → k ≤ key x → below k x ≡ 0
  below-ge k x ge = grind (arith, nat_tests)

  ge-below : (k : ℕ) (x : X) → below k x ≡ 0 → k ≤ key x
  ge-below k x none = grind (arith, nat_tests)

  -- no key of a list is below a number
  sum_by-below : (k : ℕ) (xs : List X) → AllByRecursion (λ x. k ≤ key x) xs → sum_by (below k) xs ≡ 0
  sum_by-below k [] all = refl
  sum_by-below k (x ∷ xs) all = omega (arith, sum_by-cons (below k) x xs, below-ge k x all.0, sum_by-below k xs all.1)

  -- elements of some list are those of another one with the same key
  abbrev AreThose : List X → X → Type 0
  AreThose ys z = AllByRecursion (λ y. key z ≡ key y → z ≡ y) ys

  -- of two lists with the same elements, the one in order is the one whose keys rise
  same-in_order : (zs ys : List X) → Rises key zs → Rise ys → ((f : X → ℕ) → sum_by f zs ≡ sum_by f ys) →
      AllByRecursion (AreThose ys) zs → zs ≡ ys
  same-in_order [] [] none rise sums are = refl
  same-in_order [] (y ∷ ys) none rise sums are = absurd (omega (arith, sums (λ x. 1), sum_by-cons (λ (x : X). 1) y ys))
  same-in_order (z ∷ zs) [] none rise sums are = absurd (omega (arith, sums (λ x. 1), sum_by-cons (λ (x : X). 1) z zs))
  same-in_order (z ∷ zs) (y ∷ ys) none rise sums are =
      let above_y : AllByRecursion (λ x. key y ≤ key x) (y ∷ ys) = (omega arith, all_weaker _ _ (λ x lt. omega arith) ys rise.0) in
      let above_z : AllByRecursion (λ x. key z ≤ key x) (z ∷ zs) = (omega arith, none.0) in
      let none_below_y : below (key y) z ≡ 0 = omega (arith, sums (below (key y)), sum_by-cons (below (key y)) z zs, sum_by-below (key y) (y ∷ ys) above_y) in
      let none_below_z : below (key z) y ≡ 0 = omega (arith, sums (below (key z)), sum_by-cons (below (key z)) y ys, sum_by-below (key z) (z ∷ zs) above_z) in
      let same_key : key z ≡ key y = omega (arith, ge-below (key y) z none_below_y, ge-below (key z) y none_below_z) in
      let same : z ≡ y = are.0.0 same_key in
      let rest : (f : X → ℕ) → sum_by f zs ≡ sum_by f ys = λ f. (let one = ap f same in omega (arith, one, sums f, sum_by-cons f z zs, sum_by-cons f y ys)) in
      let those = all_weaker (AreThose (y ∷ ys)) (AreThose ys) (λ x each. each.1) zs are.1 in
      let tail = same-in_order zs ys none.1 rise.1 rest those in
      λ i. same i ∷ tail i

  -- where keys rise, elements with one key are one
  AreThose-Rise : (ys : List X) → Rise ys → AllByRecursion (AreThose ys) ys
  AreThose-Rise [] rise = tt
  AreThose-Rise (y ∷ ys) rise =
      let head : AreThose (y ∷ ys) y = (λ same. refl, all_weaker _ _ (λ x lt same. absurd (omega arith)) ys rise.0) in
      (head, go ys rise.0 (AreThose-Rise ys rise.1))
    where
      go : (xs : List X) → AllByRecursion (λ x. key y < key x) xs → AllByRecursion (AreThose ys) xs → AllByRecursion (AreThose (y ∷ ys)) xs
      go [] above those = tt
      go (x ∷ xs) above those = ((λ same. absurd (omega (arith, above.0, same)), those.0), go xs above.1 those.1)

  -- the elements of a list whose keys rise, in another order in which they don't fall, are in that order
  pub Rises-IsPermutation : (xs ys : List X) → Rises key xs → IsPermutation ys xs → Rise ys → xs ≡ ys
  Rises-IsPermutation xs ys rises moved rise =
      same-in_order xs ys rises rise (λ f. sum_by-IsPermutation f ys xs moved) (recursion_from_All (AreThose ys) xs
      (All-permutation (AreThose ys) ys xs moved (All-from_recursion (AreThose ys) ys (AreThose-Rise ys rise))))

  -- in any order, they are put in that order
  pub in_order-IsPermutation : (xs ys : List X) → IsPermutation ys xs → Rise ys → in_order key xs ≡ ys
  in_order-IsPermutation xs ys moved rise =
      Rises-IsPermutation (in_order key xs) ys (Rises-in_order xs) (IsPermutation-trans _ _ _ moved (IsPermutation-in_order xs)) rise

  -- those that pass a test
  pub Rise-filter : (test : X → Bool) (xs : List X) → Rise xs → Rise (filter test xs)
  Rise-filter test [] rise = tt
  Rise-filter test (x ∷ xs) rise =
      cond_both (test x) (x ∷ filter test xs) (filter test xs) Rise (λ passes. (all-kept _ test xs rise.0, Rise-filter test xs rise.1))
      (λ fails. Rise-filter test xs rise.1)

  -- what comes before and after an element
  pub Rise-split : (xs : List X) (y : X) (ys : List X) → Rise (xs ++ y ∷ ys) →
      AllByRecursion (λ x. key x < key y) xs × AllByRecursion (λ x. key y < key x) ys
  Rise-split [] y ys rise = (tt, rise.0)
  Rise-split (x ∷ xs) y ys rise =
      let rest = Rise-split xs y ys rise.1 in
      (((each-behind _ xs (y ∷ ys) rise.0).0, rest.0), rest.1)

  -- keys that rise from each to the next
  Rise-pairs : (xs : List X) → AllPairs (λ m n. m < n) (map key xs) → Rise xs
  Rise-pairs [] pairs = tt
  Rise-pairs (x ∷ []) pairs = (tt, tt)
  Rise-pairs (x ∷ y ∷ ys) pairs =
      let rest = Rise-pairs (y ∷ ys) (λ i j d lt inside. pairs (suc i) (suc j) d (omega arith) (omega arith)) in
      let first : key x < key y = pairs 0 1 0 (omega arith) (omega arith) in
      ((first, all_weaker _ _ (λ z lt. omega arith) ys rest.0), rest)

  pub Rise-increasing : (xs : List X) → IsStrictlyIncreasing (map key xs) → Rise xs
  Rise-increasing xs rising = Rise-pairs xs (AllPairs-from_increasing (map key xs) rising)

  pub increasing-Rise : (xs : List X) → Rise xs → IsStrictlyIncreasing (map key xs)
  increasing-Rise [] rise k inside = absurd (omega arith)
  increasing-Rise (x ∷ []) rise k inside = absurd (omega arith)
  increasing-Rise (x ∷ y ∷ ys) rise zero inside = rise.0.0
  increasing-Rise (x ∷ y ∷ ys) rise (suc k) inside =
      let next : suc k + 1 ≡ suc (k + 1) = omega arith in
      rw next (increasing-Rise (y ∷ ys) rise.1 k (omega arith))

-- ---- lists in the order of a key: what the order keeps, and that it is the only one that keeps ties as they stand

pub put-less : {X : Type 0} (key : X → ℕ) (x y : X) (ys : List X) → leb (key x) (key y) ≡ true → put_in_order key x (y ∷ ys) ≡ x ∷ y ∷ ys
put-less key x y ys is = cond-true _ _ _ is

pub put-more : {X : Type 0} (key : X → ℕ) (x y : X) (ys : List X) → leb (key x) (key y) ≡ false → put_in_order key x (y ∷ ys) ≡ y ∷ put_in_order key x ys
put-more key x y ys is = cond-false _ _ _ is

-- a test that passes keys alone
filter-put : {X : Type 0} (key : X → ℕ) (k : ℕ) (x : X) (ys : List X) →
    filter (λ y. eqb (key y) k) (put_in_order key x ys) ≡ filter (λ y. eqb (key y) k) (x ∷ ys)
filter-put key k x [] = refl
filter-put key k x (y ∷ ys) =
    cond_both (leb (key x) (key y)) (x ∷ y ∷ ys) (y ∷ put_in_order key x ys) (λ zs. filter (λ z. eqb (key z) k) zs ≡ filter (λ z. eqb (key z) k) (x ∷ y ∷ ys))
    (λ _. refl) (λ is.
    let lt = leb-false _ _ is in
    let rest = filter-put key k x ys in
    elim (cases_eq (key y) k) [
      | inl same ↦
          let passes = eq-eqb (key y) k same in
          let fails : eqb (key x) k ≡ false = ne_eqb (key x) k (λ e. absurd (omega (arith, e))) in
          cond-true _ _ _ passes ∙ ap (λ zs. y ∷ zs) (rest ∙ cond-false _ _ _ fails) ∙ sym (cond-false _ _ _ fails ∙ cond-true _ _ _ passes)
      | inr other ↦
          let fails = ne_eqb (key y) k other in
          cond-false _ _ _ fails ∙ rest ∙ sym (ap (λ zs. cond (eqb (key x) k) (x ∷ zs) zs) (cond-false _ _ _ fails))
    ])

pub filter-in_order : {X : Type 0} (key : X → ℕ) (k : ℕ) (xs : List X) →
    filter (λ y. eqb (key y) k) (in_order key xs) ≡ filter (λ y. eqb (key y) k) xs
filter-in_order key k [] = refl
filter-in_order key k (x ∷ xs) = filter-put key k x (in_order key xs) ∙ ap (λ zs. cond (eqb (key x) k) (x ∷ zs) zs) (filter-in_order key k xs)

-- what passes a filter is one of the list
first-filter : {X : Type 0} (P : X → Type 0) (p : X → Bool) (ys : List X) (x : X) (xs : List X) → x ∷ xs ≡ filter p ys → AllByRecursion P ys → P x
first-filter P p [] x xs is all = cc
first-filter P p (y ∷ ys) x xs is all =
    elim (cases_Bool (p y)) [
      | inl passes ↦ let e : x ∷ xs ≡ y ∷ filter p ys = is ∙ cond-true _ _ _ passes in let same : y ≡ x = cc in subst P same all.0
      | inr fails ↦ first-filter P p ys x xs (is ∙ cond-false _ _ _ fails) all.1
    ]

-- the tails, where the heads are the same
tails : {X : Type 0} (key : X → ℕ) (z : X) (x : X) (xs ys : List X) →
    filter (λ y. eqb (key y) (key z)) (x ∷ xs) ≡ filter (λ y. eqb (key y) (key z)) (x ∷ ys) →
    filter (λ y. eqb (key y) (key z)) xs ≡ filter (λ y. eqb (key y) (key z)) ys
tails key z x xs ys is =
    elim (cases_Bool (eqb (key x) (key z))) [
      | inl passes ↦
          let e : x ∷ filter (λ y. eqb (key y) (key z)) xs ≡ x ∷ filter (λ y. eqb (key y) (key z)) ys = sym (cond-true _ _ _ passes) ∙ is
          ∙ cond-true _ _ _ passes in cc
      | inr fails ↦ sym (cond-false _ _ _ fails) ∙ is ∙ cond-false _ _ _ fails
    ]

-- Lists in the order of a key are the same, where at each key they have the same elements in the same order.
pub same_order : {X : Type 0} (key : X → ℕ) (xs ys : List X) → Rises key xs → Rises key ys →
    ((z : X) → filter (λ y. eqb (key y) (key z)) xs ≡ filter (λ y. eqb (key y) (key z)) ys) → xs ≡ ys
same_order key [] [] up_x up_y same = refl
same_order key [] (y ∷ ys) up_x up_y same = let e = same y ∙ cond-true _ _ _ (eq-eqb (key y) (key y) refl) in cc
same_order key (x ∷ xs) [] up_x up_y same = let e = sym (same x) ∙ cond-true _ _ _ (eq-eqb (key x) (key x) refl) in cc
same_order key (x ∷ xs) (y ∷ ys) up_x up_y same =
    let at_x = sym (cond-true _ _ _ (eq-eqb (key x) (key x) refl)) ∙ same x in
    let at_y = sym (cond-true _ _ _ (eq-eqb (key y) (key y) refl)) ∙ sym (same y) in
    let le : key y ≤ key x = first-filter (λ z. key y ≤ key z) (λ z. eqb (key z) (key x)) (y ∷ ys) x _ at_x (omega arith, up_y.0) in
    let ge : key x ≤ key y = first-filter (λ z. key x ≤ key z) (λ z. eqb (key z) (key y)) (x ∷ xs) y _ at_y (omega arith, up_x.0) in
    let both : x ∷ filter (λ z. eqb (key z) (key x)) xs ≡ y ∷ filter (λ z. eqb (key z) (key x)) ys =
    at_x ∙ cond-true _ _ _ (eq-eqb (key y) (key x) (omega arith)) in
    let head : y ≡ x = cc in
    let rest : xs ≡ ys = same_order key xs ys up_x.1 up_y.1 (λ z. tails key z x xs ys (same z ∙ ap (λ h. filter (λ w. eqb (key w) (key z)) (h ∷ ys)) head)) in
    ap (λ h. h ∷ xs) (sym head) ∙ ap (λ zs. y ∷ zs) rest

-- so do elements that are sorted by it
pub Rises-from_sorted : {X : Type 0} (key : X → ℕ) (xs : List X) → IsNonDecreasingBy key xs → Rises key xs
Rises-from_sorted key [] up = tt
Rises-from_sorted key (x ∷ xs) up = (
  recursion_from_All (λ y. key x ≤ key y) xs (λ k d lt. up 0 (suc k) d (omega arith) (omega arith)),
  Rises-from_sorted key xs (λ i j d le lt. up (suc i) (suc j) d (omega arith) (omega arith)),
)

less-ltb : (a b : ℕ) → is_lt (nat_cmp a b) ≡ ltb a b
less-ltb a b =
    elim (cases_order a b) [
      | inl same ↦
          let fails = le-ltb a b (omega arith) in
          ap is_lt (cond-false _ _ _ fails ∙ cond-true _ _ _ (eq-eqb a b same)) ∙ sym fails
      | inr other ↦ elim other [
        | inl less ↦ let passes = lt-ltb a b less in ap is_lt (cond-true _ _ _ passes) ∙ sym passes
        | inr more ↦
            let fails = le-ltb a b (omega (arith, more)) in
            ap is_lt (cond-false _ _ _ fails ∙ cond-false _ _ _ (ne_eqb a b (λ e. absurd (omega (arith, e, more))))) ∙ sym fails
      ]
    ]

-- what ties by a key is what has the same key
ties-key : (a b : ℕ) → (not (is_lt (nat_cmp a b)) && not (is_lt (nat_cmp b a))) ≡ eqb b a
ties-key a b = rw (less-ltb a b, less-ltb b a) (elim (cases_order a b) [
  | inl same ↦ rw (le-ltb a b (omega arith), le-ltb b a (omega arith)) (sym (eq-eqb b a (sym same)))
  | inr other ↦ elim other [
    | inl less ↦ rw (lt-ltb a b less) (sym (ne_eqb b a (λ e. absurd (omega (arith, e, less)))))
    | inr more ↦ rw (le-ltb a b (omega arith), lt-ltb b a more) (sym (ne_eqb b a (λ e. absurd (omega (arith, e, more)))))
  ]
])

-- a stable sort by a key gives the list in the order of the key
pub in_order-from_sort : {X : Type 0} (key : X → ℕ) (xs ys : List X) → IsSortedByKey key nat_cmp ys → IsStableByKey key nat_cmp xs ys → ys ≡ in_order key xs
in_order-from_sort {X} key xs ys up stable =
    same_order key ys (in_order key xs) (Rises-from_sorted key ys (IsNonDecreasingBy-from_sort key ys up)) (Rises-in_order key xs) (λ z.
    let tie : (λ (y : X). ties (λ a b. is_lt (nat_cmp (key a) (key b))) z y) ≡ (λ (y : X). eqb (key y) (key z)) = λ i y. ties-key (key z) (key y) i in
    ap (λ (p : X → Bool). filter p ys) (sym tie) ∙ stable z ∙ ap (λ (p : X → Bool). filter p xs) tie ∙ sym (filter-in_order key (key z) xs))

-- a list of what elements have, in the order of their keys
pub map-in_order : {X Y : Type 0} (key : Y → ℕ) (f : X → Y) (xs : List X) → map f (in_order (λ x. key (f x)) xs) ≡ in_order key (map f xs)
map-in_order key f [] = refl
map-in_order {X} key f (x ∷ xs) = map-put (in_order (λ y. key (f y)) xs) ∙ ap (put_in_order key (f x)) (map-in_order key f xs)
  where
    map-put : (ys : List X) → map f (put_in_order (λ y. key (f y)) x ys) ≡ put_in_order key (f x) (map f ys)
    map-put [] = refl
    map-put (y ∷ ys) =
        elim (cases_Bool (leb (key (f x)) (key (f y)))) [
          | inl le ↦ ap (map f) (put-less (λ z. key (f z)) x y ys le) ∙ sym (put-less key (f x) (f y) (map f ys) le)
          | inr more ↦ ap (map f) (put-more (λ z. key (f z)) x y ys more) ∙ ap (λ l. f y ∷ l) (map-put ys) ∙ sym (put-more key (f x) (f y) (map f ys) more)
        ]
