-- What stands at an index of a line that changes.
use Rattle.std.proofs.Common.{◌≡◌, ◌≢◌, ◌∙◌, sym, ap, refl, ℕ, zero, suc, ◌+◌, ◌<◌, ◌≤◌, Bool, true, cond, List, []}
use Rattle.std.proofs.Common.{◌∷◌, ◌++◌, length, length-append, count_by, arith, set, inl, inr}
use Rattle.std.proofs.Common.{get_or, Some, None}
use Rattle.std.proofs.lemmas.Bool.{eq-eqb, eqb-true, cases_eq, cases_lt, cond-true}
use Rattle.std.proofs.lemmas.Option.{slice_get_past, slice_get_within, slice_get_cases, slice_get-get_or, get_or_from_slice_get}
use Rattle.std.proofs.lemmas.List.Sums.{passes_at_first, get_or-le-sum_by, sum_by-cons}
use Rattle.std.specs.List.{slice_get, remove}
use Rattle.std.specs.Option.{option_map}
use Rattle.ss_line.specs.declared.entry.At.{At}
use Rattle.ss_line.specs.declared.entry.Entry.{Entry}
use Rattle.ss_line.specs.Line.{StandsIn, is_at, index_of, place_at, place_before}

module _ {X : Type 0} where
  pub slice_get-append_below : (xs ys : List X) (k : ℕ) → k < length xs → slice_get (xs ++ ys) k ≡ slice_get xs k
  slice_get-append_below [] ys k lt = absurd (omega (arith, lt))
  slice_get-append_below (x ∷ xs) ys zero lt = refl
  slice_get-append_below (x ∷ xs) ys (suc k) lt = slice_get-append_below xs ys k (omega (arith, lt))

  pub slice_get-append_seam : (xs ys : List X) (k : ℕ) → slice_get (xs ++ ys) (length xs + k) ≡ slice_get ys k
  slice_get-append_seam [] ys k = ap (slice_get ys) (omega arith)
  slice_get-append_seam (x ∷ xs) ys k =
      let next : length (x ∷ xs) + k ≡ suc (length xs + k) = omega arith in
      ap (slice_get (x ∷ (xs ++ ys))) next ∙ slice_get-append_seam xs ys k

  pub slice_get-append_last : (xs : List X) (y : X) (k : ℕ) → k ≡ length xs → slice_get (xs ++ y ∷ []) k ≡ Some y
  slice_get-append_last xs y k is = ap (slice_get (xs ++ y ∷ [])) (omega (arith, is)) ∙ slice_get-append_seam xs (y ∷ []) 0

  pub slice_get-append_other : (xs : List X) (y : X) (k : ℕ) → k ≢ length xs → slice_get (xs ++ y ∷ []) k ≡ slice_get xs k
  slice_get-append_other xs y k other =
      elim (cases_lt k (length xs)) [
        | inl lt ↦ slice_get-append_below xs (y ∷ []) k lt
        | inr past ↦ slice_get_past (xs ++ y ∷ []) k (omega (arith, past, other, length-append xs (y ∷ []))) ∙ sym (slice_get_past xs k past)
      ]

  pub slice_get-remove_below : (xs : List X) (i k : ℕ) → k < i → slice_get (remove xs i) k ≡ slice_get xs k
  slice_get-remove_below xs zero k lt = absurd (omega (arith, lt))
  slice_get-remove_below [] (suc i) k lt = refl
  slice_get-remove_below (x ∷ xs) (suc i) zero lt = refl
  slice_get-remove_below (x ∷ xs) (suc i) (suc k) lt = slice_get-remove_below xs i k (omega (arith, lt))

  pub slice_get-remove_above : (xs : List X) (i k : ℕ) → i ≤ k → slice_get (remove xs i) k ≡ slice_get xs (suc k)
  slice_get-remove_above [] zero k le = refl
  slice_get-remove_above [] (suc i) k le = refl
  slice_get-remove_above (x ∷ xs) zero k le = refl
  slice_get-remove_above (x ∷ xs) (suc i) zero le = absurd (omega (arith, le))
  slice_get-remove_above (x ∷ xs) (suc i) (suc k) le = slice_get-remove_above xs i k (omega (arith, le))

  pub slice_get-set_same : (xs : List X) (i : ℕ) (y : X) → i < length xs → slice_get (set xs i y) i ≡ Some y
  slice_get-set_same [] i y lt = absurd (omega (arith, lt))
  slice_get-set_same (x ∷ xs) zero y lt = refl
  slice_get-set_same (x ∷ xs) (suc i) y lt = slice_get-set_same xs i y (omega (arith, lt))

  pub slice_get-set_other : (xs : List X) (i k : ℕ) (y : X) → k ≢ i → slice_get (set xs i y) k ≡ slice_get xs k
  slice_get-set_other [] i k y other = refl
  slice_get-set_other (x ∷ xs) zero zero y other = absurd (other refl)
  slice_get-set_other (x ∷ xs) zero (suc k) y other = refl
  slice_get-set_other (x ∷ xs) (suc i) zero y other = refl
  slice_get-set_other (x ∷ xs) (suc i) (suc k) y other = slice_get-set_other xs i k y (λ same. other (ap suc same))

  -- one that passes is counted
  pub counted : (p : X → Bool) (xs : List X) (k : ℕ) (x : X) → slice_get xs k ≡ Some x → p x ≡ true → 1 ≤ count_by p xs
  counted p xs k x is passes =
      let one : X → ℕ = λ y. cond (p y) 1 0 in
      omega (arith, get_or-le-sum_by one xs k x (slice_get_within xs k x is), ap one (get_or_from_slice_get xs k x x is), cond-true {A = ℕ} (p x) 1 0 passes)

  -- where at most one passes, it has one index
  pub one_index : (p : X → Bool) (xs : List X) (k j : ℕ) (x y : X) → slice_get xs k ≡ Some x → slice_get xs j ≡ Some y → p x ≡ true →
      p y ≡ true →
      count_by p xs ≤ 1 → k ≡ j
  one_index p [] k j x y at_k at_j first second once = absurd (cc)
  one_index p (z ∷ zs) zero zero x y at_k at_j first second once = refl
  one_index p (z ∷ zs) zero (suc j) x y at_k at_j first second once =
      let same : z ≡ x = cc in
      absurd (omega (arith, once, sum_by-cons (λ y. cond (p y) 1 0) z zs, cond-true {A = ℕ} (p z) 1 0 (ap p same ∙ first), counted p zs j y at_j second))
  one_index p (z ∷ zs) (suc k) zero x y at_k at_j first second once =
      let same : z ≡ y = cc in
      absurd (omega (arith, once, sum_by-cons (λ y. cond (p y) 1 0) z zs, cond-true {A = ℕ} (p z) 1 0 (ap p same ∙ second), counted p zs k x at_k first))
  one_index p (z ∷ zs) (suc k) (suc j) x y at_k at_j first second once =
      ap suc (one_index p zs k j x y at_k at_j first second (omega (arith, once, sum_by-cons (λ y. cond (p y) 1 0) z zs)))

-- the place of an entry
abbrev pub place_of : At × Entry → At
place_of entry = entry.0

-- an entry to name where none is read
abbrev pub nothing : Entry
nothing = record { first = 0; last = 0; t_first = 0; t_last = 0; slot = 0 }

module _ (entries : List (At × Entry)) where
  -- there is a place at each index, and none past the end
  pub place_at-some : (k : ℕ) (entry : At × Entry) → slice_get entries k ≡ Some entry → place_at entries k ≡ Some entry.0
  place_at-some k entry is = ap (option_map place_of) is

  pub place_at-past : (k : ℕ) → length entries ≤ k → place_at entries k ≡ None
  place_at-past k past = ap (option_map place_of) (slice_get_past entries k past)

  -- the entry that stands at a place
  pub entry_there : (at : At) → StandsIn entries at → (entry : Entry) × (slice_get entries (index_of entries at) ≡ Some (at, entry))
  entry_there at stands =
      let found = get_or entries (index_of entries at) (at, nothing) in
      let number : found.0.0 ≡ at.0 = eqb-true _ _ (passes_at_first (is_at at) entries (at, nothing) stands) in
      let place : found.0 ≡ at = ap (λ (n : ℕ). let place : At = record { 0 = n } in place) number in (
        found.1,
        slice_get-get_or entries (index_of entries at) (at, nothing) stands ∙
            ap (λ (place : At). Some (place, found.1)) place,
      )

  pub place_at-index : (at : At) → StandsIn entries at → place_at entries (index_of entries at) ≡ Some at
  place_at-index at stands = place_at-some _ _ (entry_there at stands).1

  -- a place that no entry has
  pub not_placed : (at : At) (k : ℕ) → count_by (is_at at) entries ≡ 0 → place_at entries k ≢ Some at
  not_placed at k none is =
      elim (slice_get_cases entries k).1 [
        | inl found ↦ (let same : found.0.0 ≡ at = (let there = place_at-some k found.0 found.2 in cc) in
            absurd (omega (arith, none, counted (is_at at) entries k found.0 found.2 (eq-eqb _ _ (ap (λ (a : At). a.0) same)))))
        | inr past ↦ (let there = place_at-past k past.0 in absurd (cc))
      ]

  pub not_before : (at : At) (k : ℕ) → count_by (is_at at) entries ≡ 0 → place_before entries k ≢ Some at
  not_before at zero none is = absurd (cc)
  not_before at (suc k) none is = not_placed at k none is

  -- no two entries stand at one place
  module _ (apart : (at : At) → count_by (is_at at) entries ≤ 1) where
    pub place_at-differ : (k j : ℕ) → k ≤ length entries → j ≤ length entries → k ≢ j → place_at entries k ≢ place_at entries j
    place_at-differ k j le_k le_j differ same =
        elim (slice_get_cases entries k).1 [
          | inl first ↦ elim (slice_get_cases entries j).1 [
            | inl second ↦ (
                let places : first.0.0 ≡ second.0.0 = (let left = place_at-some k first.0 first.2 in let right = place_at-some j second.0 second.2 in cc) in
                absurd (differ (one_index (is_at first.0.0) entries k j first.0 second.0 first.2 second.2 (eq-eqb _ _ refl)
                (eq-eqb _ _ (ap (λ (a : At). a.0) (sym places))) (apart first.0.0))))
            | inr past ↦ (let left = place_at-some k first.0 first.2 in let right = place_at-past j past.0 in absurd (cc))
          ]
          | inr end ↦ elim (slice_get_cases entries j).1 [
            | inl second ↦ (let left = place_at-past k end.0 in let right = place_at-some j second.0 second.2 in absurd (cc))
            | inr past ↦ absurd (differ (omega (arith, le_k, le_j, end.0, past.0)))
          ]
        ]

    pub place_before-differ : (k j : ℕ) → k ≤ length entries → j ≤ length entries → k ≢ j → place_before entries k ≢ place_before entries j
    place_before-differ zero zero le_k le_j differ same = differ refl
    place_before-differ zero (suc j) le_k le_j differ same =
        place_at-differ (length entries) j (omega arith) (omega (arith, le_j)) (λ end. absurd (omega (arith, le_j, end)))
        (place_at-past (length entries) (omega arith) ∙ same)
    place_before-differ (suc k) zero le_k le_j differ same =
        place_at-differ (length entries) k (omega arith) (omega (arith, le_k)) (λ end. absurd (omega (arith, le_k, end)))
        (place_at-past (length entries) (omega arith) ∙ sym same)
    place_before-differ (suc k) (suc j) le_k le_j differ same = place_at-differ k j (omega (arith, le_k)) (omega (arith, le_j)) (λ is. differ (ap suc is)) same

  -- an entry more at the end
  module _ (entry : At × Entry) where
    pub place_at-push_below : (k : ℕ) → k < length entries → place_at (entries ++ entry ∷ []) k ≡ place_at entries k
    place_at-push_below k lt = ap (option_map place_of) (slice_get-append_below entries (entry ∷ []) k lt)

    pub place_at-push_last : (k : ℕ) → k ≡ length entries → place_at (entries ++ entry ∷ []) k ≡ Some entry.0
    place_at-push_last k is = ap (option_map place_of) (slice_get-append_last entries entry k is)

    pub place_at-push_past : (k : ℕ) → k ≡ length entries + 1 → place_at (entries ++ entry ∷ []) k ≡ None
    place_at-push_past k is =
        ap (place_at (entries ++ entry ∷ [])) is ∙ ap (option_map place_of) (slice_get-append_seam entries (entry ∷ []) 1)

    pub place_before-push : (k : ℕ) → k ≤ length entries → place_before (entries ++ entry ∷ []) k ≡ place_before entries k
    place_before-push zero le = refl
    place_before-push (suc k) le = place_at-push_below k (omega (arith, le))

  -- an entry less
  pub place_at-remove_below : (i k : ℕ) → k < i → place_at (remove entries i) k ≡ place_at entries k
  place_at-remove_below i k lt = ap (option_map place_of) (slice_get-remove_below entries i k lt)

  pub place_at-remove_above : (i k : ℕ) → i ≤ k → place_at (remove entries i) k ≡ place_at entries (suc k)
  place_at-remove_above i k le = ap (option_map place_of) (slice_get-remove_above entries i k le)

  pub place_before-remove_below : (i k : ℕ) → k ≤ i → place_before (remove entries i) k ≡ place_before entries k
  place_before-remove_below i zero le = refl
  place_before-remove_below i (suc k) le = place_at-remove_below i k (omega (arith, le))

  pub place_before-remove_above : (i k : ℕ) → i < k → place_before (remove entries i) k ≡ place_before entries (suc k)
  place_before-remove_above i zero lt = absurd (omega (arith, lt))
  place_before-remove_above i (suc k) lt = place_at-remove_above i k (omega (arith, lt))

  -- another entry at the same place
  pub place_at-set : (at : At) (entry : Entry) (k : ℕ) → StandsIn entries at →
      place_at (set entries (index_of entries at) (at, entry)) k ≡ place_at entries k
  place_at-set at entry k stands =
      elim (cases_eq k (index_of entries at)) [
        | inl same ↦ ap (place_at (set entries (index_of entries at) (at, entry))) same ∙
            ap (option_map place_of) (slice_get-set_same entries (index_of entries at) (at, entry) stands) ∙
            sym (ap (place_at entries) same ∙ place_at-index at stands)
        | inr other ↦ ap (option_map place_of) (slice_get-set_other entries (index_of entries at) k (at, entry) other)
      ]

  pub place_before-set : (at : At) (entry : Entry) (k : ℕ) → StandsIn entries at →
      place_before (set entries (index_of entries at) (at, entry)) k ≡ place_before entries k
  place_before-set at entry zero stands = refl
  place_before-set at entry (suc k) stands = place_at-set at entry k stands
