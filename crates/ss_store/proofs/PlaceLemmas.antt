-- Where parts of rising numbers stand.
use Rattle.ss_store.proofs.Common.{◌≡◌, ℕ, zero, suc, ◌+◌, ◌-◌, ◌<◌, ◌≤◌, Bool, true, false, List, [], ◌∷◌, ◌++◌, length, get_or, take, refl, ap, sym, ◌∙◌}
use Rattle.ss_store.proofs.Common.{arith, None, Some, inl, inr, slice_get, IsSome, ◌==◌, ◌||◌, position_or_len, list_any, IsStrictlyIncreasing, cases_lt}
use Rattle.ss_store.proofs.Common.{eqb-true, eq-eqb, ne_eqb, length-map, map-append, find_at, list_any-append, AllPairs-from_increasing, passes_at_first}
use Rattle.ss_store.proofs.Common.{slice_get_within, get_or_from_slice_get, LAST_STREAM, next_number, StreamParts, numbers_held, part_numbered}
use Rattle.std.proofs.lemmas.Bool.{cases_order}
use Rattle.std.proofs.Math.Seq.{get_or-append_seam}
use Rattle.std.proofs.lemmas.Grind.{common_steps}
use Rattle.std.proofs.lemmas.List.{length-append, get_or_append_left}
use Rattle.std.proofs.lemmas.List.Sums.{position_or_len_is}
use Rattle.std.proofs.lemmas.Option.{slice_get_past}

pub number_at : (parts : List StreamParts) (k : ℕ) (d : StreamParts) → k < length parts → get_or (numbers_held parts) k 0 ≡ (get_or parts k d).id.0
number_at [] k d inside = absurd (omega arith)
number_at (s ∷ ss) zero d inside = refl
number_at (s ∷ ss) (suc k) d inside = number_at ss k d (omega arith)

pub numbers-below : (parts : List StreamParts) (i j : ℕ) (d : StreamParts) → IsStrictlyIncreasing (numbers_held parts) → i < j → j < length parts →
    (get_or parts i d).id.0 < (get_or parts j d).id.0
numbers-below parts i j d rising order inside =
    let all = length-map parts (λ (s : StreamParts). s.id.0) in
    let low = number_at parts i d (omega arith) in
    let high = number_at parts j d inside in
    let pair : get_or (numbers_held parts) i 0 < get_or (numbers_held parts) j 0 = AllPairs-from_increasing (numbers_held parts) rising i j 0 order
    (omega arith) in
    omega arith

-- the place of the stream of a number
abbrev pub place_in : ℕ → List StreamParts → ℕ
place_in number parts = position_or_len (λ s. number == s.id.0) parts

pub place_in-inside : (number : ℕ) (parts : List StreamParts) → IsSome (part_numbered number parts) → place_in number parts < length parts
place_in-inside number parts stands = elim (cases_lt (place_in number parts) (length parts)) [
  | inl inside ↦ inside
  | inr past ↦
      (let none : part_numbered number parts ≡ None = find_at (λ (s : StreamParts). number == s.id.0) parts ∙
      slice_get_past parts (place_in number parts) past in
      let wrong : false ≡ true = rw none at stands in cc)
]

pub number-place_in : (number : ℕ) (parts : List StreamParts) (d : StreamParts) → place_in number parts < length parts →
    (get_or parts (place_in number parts) d).id.0 ≡ number
number-place_in number parts d inside = sym (eqb-true _ _ (passes_at_first (λ (s : StreamParts). number == s.id.0) parts d inside))

-- a stream whose number isn't above stands no later, and one whose number is above stands later
pub place_in-after : (number : ℕ) (parts : List StreamParts) (k : ℕ) (d : StreamParts) → IsStrictlyIncreasing (numbers_held parts) →
    place_in number parts < length parts → k < length parts → (get_or parts k d).id.0 ≤ number → k ≤ place_in number parts
place_in-after number parts k d rising stands inside low = elim (cases_lt (place_in number parts) k) [
  | inl order ↦ absurd (omega (arith, numbers-below parts (place_in number parts) k d rising order inside, number-place_in number parts d stands))
  | inr order ↦ order
]

pub place_in-before : (number : ℕ) (parts : List StreamParts) (k : ℕ) (d : StreamParts) → IsStrictlyIncreasing (numbers_held parts) →
    place_in number parts < length parts → k < length parts → number < (get_or parts k d).id.0 → place_in number parts < k
place_in-before number parts k d rising stands inside high = elim (cases_order (place_in number parts) k) [
  | inl same ↦ absurd (omega (arith, number-place_in number parts d stands, ap (λ i. (get_or parts i d).id.0) same))
  | inr apart ↦ elim apart [
    | inl order ↦ order
    | inr order ↦ absurd (omega (arith, numbers-below parts k (place_in number parts) d rising order stands, number-place_in number parts d stands))
  ]
]

-- the stream at a place is the one of its number
pub part_numbered-at : (parts : List StreamParts) (i : ℕ) (s : StreamParts) → IsStrictlyIncreasing (numbers_held parts) → slice_get parts i ≡ Some s →
    part_numbered s.id.0 parts ≡ Some s
part_numbered-at parts i s rising at =
    let inside = slice_get_within parts i s at in
    let here = get_or_from_slice_get parts i s s at in
    let place : place_in s.id.0 parts ≡ i = position_or_len_is (λ (u : StreamParts). s.id.0 == u.id.0) parts i s (omega arith)
    (λ k before. ne_eqb _ _ (λ same. omega (arith, numbers-below parts k i s rising before inside, ap (λ (u : StreamParts). u.id.0) here)))
    (λ within. rw here (eq-eqb s.id.0 s.id.0 refl)) in
    find_at (λ (u : StreamParts). s.id.0 == u.id.0) parts ∙ ap (λ k. slice_get parts k) place ∙ at

-- no stream stands at two places
pub places-same : (parts : List StreamParts) (i j : ℕ) (s : StreamParts) → IsStrictlyIncreasing (numbers_held parts) → slice_get parts i ≡ Some s →
    slice_get parts j ≡ Some s → i ≡ j
places-same parts i j s rising first second =
    let first_inside = slice_get_within parts i s first in
    let second_inside = slice_get_within parts j s second in
    let first_here = ap (λ (u : StreamParts). u.id.0) (get_or_from_slice_get parts i s s first) in
    let second_here = ap (λ (u : StreamParts). u.id.0) (get_or_from_slice_get parts j s s second) in
    elim (cases_order i j) [
      | inl same ↦ same
      | inr apart ↦ elim apart [
        | inl order ↦ absurd (omega (arith, numbers-below parts i j s rising order second_inside))
        | inr order ↦ absurd (omega (arith, numbers-below parts j i s rising order first_inside))
      ]
    ]

-- the numbers before the last one are below it
pub below-last : (us : List StreamParts) (w : StreamParts) → IsStrictlyIncreasing (numbers_held (us ++ w ∷ [])) →
    (k : ℕ) → k < length us → get_or (numbers_held us) k 0 < w.id.0
below-last us w rising k inside =
    let all = length-append us (w ∷ []) in
    let pair = numbers-below (us ++ w ∷ []) k (length us) w rising inside (omega arith) in
    let low : get_or (us ++ w ∷ []) k w ≡ get_or us k w = get_or_append_left us (w ∷ []) w k inside in
    let high : get_or (us ++ w ∷ []) (length us) w ≡ w = get_or-append_seam us w [] w in
    rw (low, high, ← number_at us k w inside) at pair

-- the next number is one more than the last
next_number-push : (numbers : List ℕ) (n : ℕ) → ((k : ℕ) → k < length numbers → get_or numbers k 0 < n) → next_number (numbers ++ n ∷ []) ≡ n + 1
next_number-push [] n below = omega arith
next_number-push (m ∷ ms) n below =
    let first = below 0 (omega arith) in
    let rest = next_number-push ms n (λ k inside. below (suc k) (omega arith)) in
    omega arith

list_any-below : (numbers : List ℕ) (n : ℕ) → n ≤ LAST_STREAM → ((k : ℕ) → k < length numbers → get_or numbers k 0 < n) →
    list_any (λ number. number == LAST_STREAM) numbers ≡ false
list_any-below [] n few below = refl
list_any-below (m ∷ ms) n few below =
    let first = below 0 (omega arith) in
    let apart : (m == LAST_STREAM) ≡ false = ne_eqb _ _ (λ same. omega arith) in
    rw (apart, list_any-below ms n few (λ k inside. below (suc k) (omega arith))) refl

or-no : (b : Bool) → (b || false) ≡ b
or-no true = refl
or-no false = refl

-- what the last part tells of all
pub record TellsNext (parts : List StreamParts) (n : ℕ) : Type 0 where
  pub next : next_number (numbers_held parts) ≡ n + 1
  pub taken : list_any (λ number. number == LAST_STREAM) (numbers_held parts) ≡ (n == LAST_STREAM)

pub TellsNext-last : (parts : List StreamParts) (w : StreamParts) → IsStrictlyIncreasing (numbers_held parts) → 0 < length parts →
    w ≡ get_or parts (length parts - 1) w → w.id.0 ≤ LAST_STREAM → TellsNext parts w.id.0
TellsNext-last parts w rising some last few =
    let us = take (length parts - 1) parts in
    let is : us ++ w ∷ [] ≡ parts = grind (arith, common_steps) in
    let rises : IsStrictlyIncreasing (numbers_held (us ++ w ∷ [])) = rw is rising in
    let below = below-last us w rises in
    let within : (k : ℕ) → k < length (numbers_held us) → get_or (numbers_held us) k 0 < w.id.0 =
    λ k inside. below k (omega (arith, length-map us (λ (s : StreamParts). s.id.0))) in
    rw (← is) (record {
      next = rw (map-append (λ (s : StreamParts). s.id.0) us (w ∷ [])) (next_number-push (numbers_held us) w.id.0 within);
      taken =
          rw (
            map-append (λ (s : StreamParts). s.id.0) us (w ∷ []),
            list_any-append (λ (number : ℕ). number == LAST_STREAM) (numbers_held us)
                (w.id.0 ∷ []),
            list_any-below (numbers_held us) w.id.0 few within,
          )
          (or-no (w.id.0 == LAST_STREAM));
    })
