-- Which numbers are sound doesn't hang on the order of the records.
use Rattle.ss_recover.proofs.Common.{[], ◌&&◌, ◌*◌, ◌+◌, ◌<◌, ◌==◌, ◌^◌, ◌||◌, ◌∙◌, ◌∷◌, ◌≡◌, ◌≤◌, ◌⊎◌, All-from_recursion, All-permutation, AllByRecursion, ap}
use Rattle.ss_recover.proofs.Common.{ap₂, are_sound, arith, Bool, cases_Bool, cases_lt, cond-false, cond-true, cond_both, cons_option, Created, created_by}
use Rattle.ss_recover.proofs.Common.{eq-eqb, eqb-true, false, filter, filter_map, fold, in_order, inl, inr, is_drop_of, is_mark_of, is_sound_in_order}
use Rattle.ss_recover.proofs.Common.{IsLowestUnsound, IsPermutation, IsPermutation-sym, IsUsable, keep_own_step, key_of, landmarks_made, le-leb, leb, leb-false}
use Rattle.ss_recover.proofs.Common.{leb-true, List, list_any, list_any-IsPermutation, lowest_bad_stream, lowest_in, lt-leb, map, marks_carried, min, None, not}
use Rattle.ss_recover.proofs.Common.{Option, or_cases, or_left, or_right, place_of, put_in_order, Record, recursion_from_All, refl, Rises, Some, stands_by}
use Rattle.ss_recover.proofs.Common.{stream_number, stream_of, streams_carried, streams_created, streams_made, streams_standing, sym, true, true≢false, Window}
use Rattle.ss_recover.proofs.Common.{window_of, windows_carried, ℕ}
use Rattle.ss_recover.specs.Conditions.{is_sound}
use Rattle.ss_recover.proofs.InOrder.{IsPermutation-in_order, Rises-in_order, put-less, put-more}
use Rattle.ss_recover.proofs.SoundStreams.{own_step-moved, stands_alone-moved}
use Rattle.ss_codec.specs.declared.record.Record.TheVariants as records
use Rattle.ss_parts.proofs.Lists.{all_weaker, filter_map-kept, kept}
use Rattle.ss_parts.proofs.Permutations.{IsPermutation-filter_map}

-- elements that give something are put in order as what they give is
module _ {X Y : Type 0} (key : X → ℕ) (key' : Y → ℕ) (h : X → Option Y)
    (same : (x y : X) (z w : Y) → h x ≡ Some z → h y ≡ Some w → leb (key x) (key y) ≡ leb (key' z) (key' w)) where
  first-put : (x : X) (z : Y) → h x ≡ Some z → (us : List X) → AllByRecursion (λ u. key x ≤ key u) us →
      put_in_order key' z (filter_map h us) ≡ z ∷ filter_map h us
  first-put x z is [] above = refl
  first-put x z is (u ∷ us) above = go (h u) refl (first-put x z is us above.1)
    where
      go : (o : Option Y) → h u ≡ o → put_in_order key' z (filter_map h us) ≡ z ∷ filter_map h us →
          put_in_order key' z (cons_option o (filter_map h us)) ≡ z ∷ cons_option o (filter_map h us)
      go None none rest = rest
      go (Some w) some rest = cond-true _ _ _ (sym (same x u z w is some) ∙ le-leb (key x) (key u) above.0)

  put-none : (x : X) → h x ≡ None → (ys : List X) → filter_map h (put_in_order key x ys) ≡ filter_map h ys
  put-none x none [] = ap (λ o. cons_option o []) none
  put-none x none (y ∷ ys) =
      cond_both (leb (key x) (key y)) (x ∷ y ∷ ys) (y ∷ put_in_order key x ys) (λ l. filter_map h l ≡ filter_map h (y ∷ ys))
      (λ _. ap (λ o. cons_option o (filter_map h (y ∷ ys))) none) (λ _. ap (cons_option (h y)) (put-none x none ys))

  put-some : (x : X) (z : Y) → h x ≡ Some z → (ys : List X) → Rises key ys → filter_map h (put_in_order key x ys) ≡ put_in_order key' z (filter_map h ys)
  put-some x z is [] rises = ap (λ o. cons_option o []) is
  put-some x z is (y ∷ ys) rises =
      elim (cases_Bool (leb (key x) (key y))) [
        | inl le ↦
            ap (filter_map h) (put-less key x y ys le) ∙ ap (λ o. cons_option o (filter_map h (y ∷ ys))) is
            ∙ sym (first-put x z is (y ∷ ys) (leb-true _ _ le, weaken ys (leb-true _ _ le) rises.0))
        | inr more ↦ ap (filter_map h) (put-more key x y ys more) ∙ ap (cons_option (h y)) (put-some x z is ys rises.1) ∙ go more (h y) refl
      ]
    where
      weaken : (us : List X) → key x ≤ key y → AllByRecursion (λ u. key y ≤ key u) us → AllByRecursion (λ u. key x ≤ key u) us
      weaken [] le all = tt
      weaken (u ∷ us) le all = let first = all.0 in (omega arith, weaken us le all.1)

      go : leb (key x) (key y) ≡ false → (o : Option Y) → h y ≡ o → cons_option o (put_in_order key' z (filter_map h ys))
          ≡ put_in_order key' z (cons_option o (filter_map h ys))
      go more None none = refl
      go more (Some w) some = sym (cond-false _ _ _ (sym (same x y z w is some) ∙ more))

  pub filter_map-in_order : (xs : List X) → filter_map h (in_order key xs) ≡ in_order key' (filter_map h xs)
  filter_map-in_order [] = refl
  filter_map-in_order (x ∷ xs) = go (h x) refl (filter_map-in_order xs)
    where
      go : (o : Option Y) → h x ≡ o → filter_map h (in_order key xs) ≡ in_order key' (filter_map h xs) →
          filter_map h (put_in_order key x (in_order key xs)) ≡ in_order key' (cons_option o (filter_map h xs))
      go None none rest = put-none x none (in_order key xs) ∙ rest
      go (Some z) some rest = put-some x z some (in_order key xs) (Rises-in_order key xs) ∙ ap (put_in_order key' z) rest

-- the key of a window of a number
window-key : (n : ℕ) (r : Record) (z : Window) → window_of n r ≡ Some z → key_of r ≡ n * 2 ^ 65 + (2 ^ 64 + z.first)
window-key n records.Free z is = cc
window-key n (records.Window id first summary) z is =
    elim (cases_Bool (id == n)) [
      | inl same ↦
          let some : Some (record { first = first; summary = summary }) ≡ Some z = sym (cond-true _ _ _ same) ∙ is in
          let w : record { first = first; summary = summary } ≡ z = cc in
          ap₂ (λ (a b : ℕ). a * 2 ^ 65 + (2 ^ 64 + b)) (eqb-true id n same) (ap (λ (v : Window). v.first) w)
      | inr other ↦ let none : None ≡ Some z = sym (cond-false _ _ _ other) ∙ is in cc
    ]
window-key n _ z is = cc

-- the key of a landmark's record or a value's of a number
mark-key : (n : ℕ) (r : Record) → is_mark_of n r ≡ true → key_of r ≡ n * 2 ^ 65 + place_of r
mark-key n records.Free is = absurd (true≢false (sym is))
mark-key n (records.Stream id name params dropped) is = absurd (true≢false (sym is))
mark-key n (records.Window id first summary) is = absurd (true≢false (sym is))
mark-key n r is = ap (λ (a : ℕ). a * 2 ^ 65 + place_of r) (eqb-true (stream_of r) n is)

leb-shift : (c a b : ℕ) → leb (c + a) (c + b) ≡ leb a b
leb-shift c a b = elim (cases_Bool (leb a b)) [
  | inl le ↦ le-leb (c + a) (c + b) (omega (arith, leb-true a b le)) ∙ sym le
  | inr more ↦ lt-leb (c + a) (c + b) (omega (arith, leb-false a b more)) ∙ sym more
]

window-order : (n : ℕ) (x y : Record) (z w : Window) → window_of n x ≡ Some z → window_of n y ≡ Some w → leb (key_of x) (key_of y) ≡ leb z.first w.first
window-order n x y z w is also =
    ap₂ leb (window-key n x z is) (window-key n y w also) ∙ leb-shift (n * 2 ^ 65) (2 ^ 64 + z.first) (2 ^ 64 + w.first) ∙ leb-shift (2 ^ 64) z.first w.first

windows-in_order : (n : ℕ) (rs : List Record) → windows_carried n rs ≡ filter_map (window_of n) (in_order key_of rs)
windows-in_order n rs = sym (filter_map-in_order key_of (λ (w : Window). w.first) (window_of n) (window-order n) rs)

-- an element that is kept passes the test, and is what is made of it
pub kept-is : {X : Type 0} (p : X → Bool) (r z : X) → kept p r ≡ Some z → (p r ≡ true) × (r ≡ z)
kept-is p r z is = elim (cases_Bool (p r)) [
  | inl passes ↦ let some : Some r ≡ Some z = sym (cond-true _ _ _ passes) ∙ is in (passes, cc)
  | inr fails ↦ let none : None ≡ Some z = sym (cond-false _ _ _ fails) ∙ is in cc
]

mark-order : (n : ℕ) (x y z w : Record) → kept (is_mark_of n) x ≡ Some z → kept (is_mark_of n) y ≡ Some w →
    leb (key_of x) (key_of y) ≡ leb (place_of z) (place_of w)
mark-order n x y z w is also =
    let first = kept-is (is_mark_of n) x z is in
    let second = kept-is (is_mark_of n) y w also in
    ap₂ leb (mark-key n x first.0) (mark-key n y second.0) ∙ leb-shift (n * 2 ^ 65) (place_of x) (place_of y)
    ∙ ap₂ (λ (a b : Record). leb (place_of a) (place_of b)) first.1 second.1

marks-in_order : (n : ℕ) (rs : List Record) → marks_carried n rs ≡ filter (is_mark_of n) (in_order key_of rs)
marks-in_order n rs =
    ap (in_order place_of) (sym (filter_map-kept (is_mark_of n) rs)) ∙ sym (filter_map-in_order key_of place_of (kept (is_mark_of n)) (mark-order n) rs)
    ∙ filter_map-kept (is_mark_of n) (in_order key_of rs)

stands-key : (r : Record) (z : Created) → stands_by r ≡ Some z → key_of r ≡ z.number * 2 ^ 65
stands-key (records.Stream id name params false) z is = let at : id ≡ z.number = cc in omega (arith, at)
stands-key (records.Stream id name params true) z is = cc
stands-key _ z is = cc

stands-order : (x y : Record) (z w : Created) → stands_by x ≡ Some z → stands_by y ≡ Some w → leb (key_of x) (key_of y) ≡ leb z.number w.number
stands-order x y z w is also = ap₂ leb (stands-key x z is) (stands-key y w also) ∙ elim (cases_Bool (leb z.number w.number)) [
  | inl le ↦ le-leb (z.number * 2 ^ 65) (w.number * 2 ^ 65) (let least = leb-true z.number w.number le in omega (arith, least)) ∙ sym le
  | inr more ↦ lt-leb (z.number * 2 ^ 65) (w.number * 2 ^ 65) (let less = leb-false z.number w.number more in omega (arith, less)) ∙ sym more
]

-- the streams that are carried are those that the records make in order
pub streams_carried-in_order : (rs : List Record) → streams_carried rs ≡ streams_made (in_order key_of rs) (in_order key_of rs)
streams_carried-in_order rs =
    let standing : in_order (λ (c : Created). c.number) (streams_standing rs) ≡ streams_standing (in_order key_of rs) =
    sym (filter_map-in_order key_of (λ (c : Created). c.number) stands_by stands-order rs) in
    λ i. map (λ (c : Created). record {
      number = c.number;
      name = c.name;
      params = c.params;
      windows = windows-in_order c.number rs i;
      landmarks = landmarks_made (marks-in_order c.number rs i);
    }) (standing i)

-- the records of a number are sound in any order, where they are sound in order
pub is_sound-in_order : (rs : List Record) (n : ℕ) → is_sound rs n ≡ is_sound_in_order (in_order key_of rs) n
unfolding is_sound
is_sound-in_order rs n =
    let qs : List Record = in_order key_of rs in
    let moved : IsPermutation (streams_created rs) (streams_created qs) = IsPermutation-filter_map created_by rs qs (IsPermutation-in_order key_of rs) in
    let alone = stands_alone-moved n (streams_created rs) (streams_created qs) moved in
    let windows = windows-in_order n rs in
    let marks = marks-in_order n rs in
    let gone = list_any-IsPermutation (is_drop_of n) rs qs (IsPermutation-in_order key_of rs) in
    let keeps : (ws : List Window) → keep_own_step n (streams_created rs) ws ≡ keep_own_step n (streams_created qs) ws =
    λ ws. own_step-moved n ws (streams_created rs) (streams_created qs) moved in
    λ i. alone i && (gone i || (are_sound (windows i) (marks i) && keeps (windows i) i))

-- the least of some numbers
fold-least : (n a : ℕ) (xs : List ℕ) → n ≤ a → AllByRecursion (λ x. n ≤ x) xs → (a ≡ n) ⊎ (list_any (λ x. x == n) xs ≡ true) → fold min a xs ≡ n
fold-least n a [] le all (inl is) = is
fold-least n a [] le all (inr has) = absurd (true≢false (sym has))
fold-least n a (x ∷ xs) le all (inl is) = let first = all.0 in fold-least n (min a x) xs (omega arith) all.1 (inl (omega (arith, is)))
fold-least n a (x ∷ xs) le all (inr has) =
    let first = all.0 in
    elim (or_cases _ _ has) [
      | inl here ↦ let is = eqb-true x n here in fold-least n (min a x) xs (omega arith) all.1 (inl (omega (arith, is)))
      | inr there ↦ fold-least n (min a x) xs (omega arith) all.1 (inr there)
    ]

least-is : (n : ℕ) (xs : List ℕ) → AllByRecursion (λ x. n ≤ x) xs → list_any (λ x. x == n) xs ≡ true → lowest_in xs ≡ Some n
least-is n [] all has = absurd (true≢false (sym has))
least-is n (x ∷ xs) all has = ap Some (fold-least n x xs all.0 all.1 (go (or_cases _ _ has)))
  where
    go : ((x == n) ≡ true) ⊎ (list_any (λ y. y == n) xs ≡ true) → (x ≡ n) ⊎ (list_any (λ y. y == n) xs ≡ true)
    go (inl here) = inl (eqb-true x n here)
    go (inr there) = inr there

number-usable : (r : Record) → IsUsable r → stream_number r ≡ Some (stream_of r)
number-usable records.Free usable = absurd usable
number-usable _ usable = refl

module _ (sound : ℕ → Bool) (n : ℕ) where
  abbrev bad : List ℕ → List ℕ
  bad ms = filter (λ m. not (sound m)) ms

  bad-has : sound n ≡ false → (m : ℕ) (ms : List ℕ) → (m ≡ n) ⊎ (list_any (λ k. k == n) (bad ms) ≡ true) → list_any (λ k. k == n) (bad (m ∷ ms)) ≡ true
  bad-has fails m ms (inl is) = ap (list_any (λ k. k == n)) (cond-true _ _ _ (ap not (ap sound is ∙ fails))) ∙ or_left _ _ (eq-eqb m n is)
  bad-has fails m ms (inr rest) = cond_both (not (sound m)) (m ∷ bad ms) (bad ms) (λ l. list_any (λ k. k == n) l ≡ true) (λ _. or_right _ _ rest) (λ _. rest)

  bad-least : (m : ℕ) (ms : List ℕ) → (m < n → sound m ≡ true) → AllByRecursion (λ k. n ≤ k) (bad ms) → AllByRecursion (λ k. n ≤ k) (bad (m ∷ ms))
  bad-least m ms fine all =
      cond_both (not (sound m)) (m ∷ bad ms) (bad ms) (AllByRecursion (λ k. n ≤ k)) (λ fails. (not-less fails, all)) (λ _. all)
    where
      not-less : not (sound m) ≡ true → n ≤ m
      not-less fails = elim (cases_lt m n) [ inl lt ↦ absurd (true≢false (sym fails ∙ ap not (fine lt))) | inr le ↦ le ]

  numbers-has : sound n ≡ false → (us : List Record) → AllByRecursion IsUsable us → list_any (λ r. stream_of r == n) us ≡ true →
      list_any (λ k. k == n) (bad (filter_map stream_number us)) ≡ true
  numbers-has fails [] usable has = absurd (true≢false (sym has))
  numbers-has fails (r ∷ us) usable has =
      rw (number-usable r usable.0) (elim (or_cases _ _ has) [
        | inl here ↦ bad-has fails (stream_of r) (filter_map stream_number us) (inl (eqb-true (stream_of r) n here))
        | inr there ↦ bad-has fails (stream_of r) (filter_map stream_number us) (inr (numbers-has fails us usable.1 there))
      ])

  numbers-least : (us : List Record) → AllByRecursion IsUsable us → AllByRecursion (λ r. stream_of r < n → sound (stream_of r) ≡ true) us →
      AllByRecursion (λ k. n ≤ k) (bad (filter_map stream_number us))
  numbers-least [] usable fine = tt
  numbers-least (r ∷ us) usable fine =
      rw (number-usable r usable.0) (bad-least (stream_of r) (filter_map stream_number us) fine.0 (numbers-least us usable.1 fine.1))

-- the number that a walk tells is the lowest bad one
pub lowest-bad : (rs : List Record) (n : ℕ) → AllByRecursion IsUsable rs → IsLowestUnsound n (in_order key_of rs) → lowest_bad_stream rs ≡ Some n
lowest-bad rs n usable lowest =
    let qs : List Record = in_order key_of rs in
    let moved = IsPermutation-in_order key_of rs in
    let lower : AllByRecursion (λ r. stream_of r < n → is_sound rs (stream_of r) ≡ true) rs =
    recursion_from_All (λ r. stream_of r < n → is_sound rs (stream_of r) ≡ true) rs
    (All-permutation (λ r. stream_of r < n → is_sound rs (stream_of r) ≡ true) qs rs (IsPermutation-sym rs qs moved)
    (All-from_recursion (λ r. stream_of r < n → is_sound rs (stream_of r) ≡ true) qs (all_weaker _ _
    (λ r fine lt. is_sound-in_order rs (stream_of r) ∙ fine lt) qs lowest.lower))) in
    least-is n (filter (λ m. not (is_sound rs m)) (filter_map stream_number rs)) (numbers-least (is_sound rs) n rs usable lower)
    (numbers-has (is_sound rs) n (is_sound-in_order rs n ∙ lowest.unsound) rs usable (list_any-IsPermutation (λ r. stream_of r == n) rs qs moved ∙ lowest.has))
