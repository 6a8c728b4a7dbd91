-- Places in a line that changes.
use Rattle.std.proofs.Common.{◌≡◌, ◌≢◌, ◌∙◌, sym, ap, refl, ℕ, zero, suc, ◌<◌, ◌≤◌, Bool, true, false, cond, not, List, [], ◌∷◌, ◌++◌, length}
use Rattle.std.proofs.Common.{count_by, arith, get_or, set, length-append, Option, Some, None, is_some, IsSome, IfSome, ◌↔◌, inl, inr}
use Rattle.std.proofs.lemmas.Bool.{eq-eqb, eqb-true, ne_eqb, cond-true, cond-false, cond_both, cases_lt, cases_Bool, both_ways}
use Rattle.std.proofs.lemmas.List.{get_or_past}
use Rattle.std.proofs.Math.Seq.{get_or-append_seam}
use Rattle.std.proofs.lemmas.Option.{slice_get_past, slice_get-get_or, slice_get_read}
use Rattle.std.proofs.lemmas.List.Folds.{find_at, find-set}
use Rattle.std.proofs.lemmas.List.Sums.{passes_at_first, get_or-le-sum_by, sum_by-remove}
use Rattle.std.specs.List.{find, position_or_len, remove}
use Rattle.std.specs.Option.{option_map}
use Rattle.ss_line.specs.declared.entry.At.{At}
use Rattle.ss_line.specs.declared.entry.Entry.{Entry}
use Rattle.ss_line.specs.Line.{StandsIn, is_at, index_of, entry_at, place_at, place_before}
use Rattle.ss_line.proofs.IndexLemmas.{nothing}

-- what is read at the index of a place
pub entry_at-read : (entries : List (At × Entry)) (at : At) (found : At × Entry) → StandsIn entries at →
    found ≡ get_or entries (index_of entries at) found → entry_at entries at ≡ Some found.1
entry_at-read entries at found stands is =
    ap (option_map (λ (e : At × Entry). e.1)) (find_at (is_at at) entries ∙ slice_get_read entries (length entries) (index_of entries at) found refl stands is)

-- the place at an index stands in the line
pub StandsIn-place_at : (entries : List (At × Entry)) (k : ℕ) (at : At) → place_at entries k ≡ Some at → StandsIn entries at
StandsIn-place_at [] k at is = absurd (cc)
StandsIn-place_at (entry ∷ entries) zero at is =
    let same : entry.0 ≡ at = cc in
    let here : is_at at entry ≡ true = eq-eqb entry.0.0 at.0 (ap (λ (a : At). a.0) same) in
    rw here (omega arith)
StandsIn-place_at (entry ∷ entries) (suc k) at is =
    let later = StandsIn-place_at entries k at is in
    cond_both (not (is_at at entry)) _ _ (λ n. n < length (entry ∷ entries)) (λ _. omega (arith, later)) (λ _. omega arith)

pub stands-place_at : (entries : List (At × Entry)) (k : ℕ) (found : Option At) → found ≡ place_at entries k → IfSome found (StandsIn entries)
stands-place_at entries k None is = tt
stands-place_at entries k (Some at) is = StandsIn-place_at entries k at (sym is)

pub stands-place_before : (entries : List (At × Entry)) (k : ℕ) (found : Option At) → found ≡ place_before entries k → IfSome found (StandsIn entries)
stands-place_before entries zero found is = rw is tt
stands-place_before entries (suc k) found is = stands-place_at entries k found is

-- the last one that was put stands
pub StandsIn-push : (entries : List (At × Entry)) (at : At) (entry : Entry) → StandsIn (entries ++ (at, entry) ∷ []) at
StandsIn-push entries at entry =
    let all = entries ++ (at, entry) ∷ [] in
    StandsIn-place_at all (length entries) at
    (ap (option_map (λ (e : At × Entry). e.0))
    (slice_get_read all (length all) (length entries) (at, entry) refl (omega (arith, length-append entries ((at, entry) ∷ [])))
    (sym (get_or-append_seam entries (at, entry) [] (at, entry)))))

-- an entry that the test doesn't pass is written or taken out
find-set_other : {X : Type 0} (p : X → Bool) (xs : List X) (i : ℕ) (y d : X) → p y ≡ false → p (get_or xs i d) ≡ false → find p (set xs i y) ≡ find p xs
find-set_other p [] i y d new old = refl
find-set_other p (x ∷ xs) zero y d new old = cond-false (p y) _ _ new ∙ sym (cond-false (p x) _ _ old)
find-set_other p (x ∷ xs) (suc i) y d new old = ap (cond (p x) (Some x)) (find-set_other p xs i y d new old)

find-remove_other : {X : Type 0} (p : X → Bool) (xs : List X) (i : ℕ) (d : X) → p (get_or xs i d) ≡ false → find p (remove xs i) ≡ find p xs
find-remove_other p [] zero d old = refl
find-remove_other p [] (suc i) d old = refl
find-remove_other p (x ∷ xs) zero d old = sym (cond-false (p x) _ _ old)
find-remove_other p (x ∷ xs) (suc i) d old = ap (cond (p x) (Some x)) (find-remove_other p xs i d old)

find-push : {X : Type 0} (p : X → Bool) (xs : List X) (y : X) → position_or_len p xs < length xs → find p (xs ++ y ∷ []) ≡ find p xs
find-push p [] y lt = absurd (omega arith)
find-push p (x ∷ xs) y lt =
    elim (cases_Bool (p x)) [
      | inl passes ↦ cond-true (p x) _ _ passes ∙ sym (cond-true (p x) _ _ passes)
      | inr fails ↦ (let past = rw fails at lt in ap (cond (p x) (Some x)) (find-push p xs y (omega (arith, past))))
    ]

module _ (entries : List (At × Entry)) (at : At) where
  pub entry_at-push : (new : At) (entry : Entry) → StandsIn entries at → entry_at (entries ++ (new, entry) ∷ []) at ≡ entry_at entries at
  entry_at-push new entry stands = ap (option_map (λ e. e.1)) (find-push (is_at at) entries (new, entry) stands)

  pub entry_at-set : (entry : Entry) → StandsIn entries at → entry_at (set entries (index_of entries at) (at, entry)) at ≡ Some entry
  entry_at-set entry stands = ap (option_map (λ e. e.1)) (find-set (is_at at) entries (index_of entries at) (at, entry) refl stands (eq-eqb at.0 at.0 refl))

  -- what stands at the index of another place, if it stands, isn't at this one
  not_at-other : (other : At) (entry : Entry) → at.0 ≢ other.0 → is_at at (get_or entries (index_of entries other) (other, entry)) ≡ false
  not_at-other other entry differ =
      let there : (get_or entries (index_of entries other) (other, entry)).0.0 ≡ other.0 =
      elim (cases_lt (index_of entries other) (length entries)) [
        | inl stands ↦ eqb-true _ _ (passes_at_first (is_at other) entries (other, entry) stands)
        | inr past ↦ ap (λ (e : At × Entry). e.0.0) (get_or_past entries (index_of entries other) (other, entry) past)
      ] in
      ne_eqb _ _ (λ same. differ (sym same ∙ there))

  pub entry_at-set_other : (other : At) (entry : Entry) → at.0 ≢ other.0 → entry_at (set entries (index_of entries other) (other, entry)) at ≡
      entry_at entries at
  entry_at-set_other other entry differ =
      ap (option_map (λ e. e.1))
      (find-set_other (is_at at) entries (index_of entries other) (other, entry) (other, entry) (ne_eqb other.0 at.0 (λ same. differ (sym same)))
      (not_at-other other entry differ))

  pub entry_at-remove_other : (other : At) → at.0 ≢ other.0 → entry_at (remove entries (index_of entries other)) at ≡ entry_at entries at
  entry_at-remove_other other differ =
      ap (option_map (λ e. e.1)) (find-remove_other (is_at at) entries (index_of entries other) (other, nothing) (not_at-other other nothing differ))

  -- a place that stood once is gone
  pub gone-remove : StandsIn entries at → count_by (is_at at) entries ≤ 1 → ¬ StandsIn (remove entries (index_of entries at)) at
  gone-remove stood once stands =
      let here : At × Entry = (at, nothing) in
      let left = remove entries (index_of entries at) in
      let was = cond-true {A = ℕ} _ 1 0 (passes_at_first (is_at at) entries here stood) in
      let is = cond-true {A = ℕ} _ 1 0 (passes_at_first (is_at at) left here stands) in
      omega (
        arith,
        was,
        is,
        sum_by-remove (λ e. cond (is_at at e) 1 0) entries (index_of entries at) here stood,
        get_or-le-sum_by
            (λ e. cond (is_at at e) 1 0) left (index_of left at) here stands,
        once,
      )

  pub entry_at-stands : IsSome (entry_at entries at) ↔ StandsIn entries at
  entry_at-stands =
      let index = index_of entries at in
      let found = ap (option_map (λ (e : At × Entry). e.1)) (find_at (is_at at) entries) in (
        λ is. elim (cases_lt index (length entries)) [
          | inl stands ↦ stands
          | inr past ↦ absurd (both_ways false refl
              (sym (ap is_some (found ∙ ap (option_map (λ (e : At × Entry). e.1)) (slice_get_past entries index past))) ∙ is))
        ],
        λ stands. ap is_some (found ∙
            ap (option_map (λ (e : At × Entry). e.1)) (slice_get-get_or entries index (at, nothing) stands)),
      )
