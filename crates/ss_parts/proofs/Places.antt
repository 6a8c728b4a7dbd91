-- Where entries stand in a line.
use Rattle.std.proofs.Common.{◌≡◌, ◌∙◌, ℕ, zero, suc, ◌+◌, ◌≤◌, true, false, cond, List, [], ◌∷◌, ◌++◌, length, map, refl}
use Rattle.std.proofs.Common.{sym, ap, arith, append_assoc, length-append, count_by, Option, Some, None, inl, inr}
use Rattle.std.specs.Prelude.{slice_get, IfSome}
use Rattle.std.specs.List.{find, list_any}
use Rattle.std.specs.Option.{option_map}
use Rattle.std.proofs.lemmas.Bool.{cases_Bool, cond-true, eq-eqb}
use Rattle.std.proofs.lemmas.List.Folds.{find_at}
use Rattle.std.proofs.lemmas.Option.{slice_get-map}
use Rattle.std.proofs.lemmas.List.Sums.{sum_by-cons}
use Rattle.ss_line.specs.Line.{IsLine, LineState, entry_at, index_of, is_at, place_at}
use Rattle.ss_line.specs.declared.entry.At.{At}
use Rattle.ss_line.specs.declared.entry.Entry.{Entry}
pub use Rattle.ss_line.proofs.Places.{index-once, none-first}
use Rattle.ss_line.proofs.Places.{find-once, is_at-same, list_any-cons_false, once-before, place_at-seam, same_place}

-- an entry stands at a place, and none before it
pub record IsAt (entries : List (At × Entry)) (at : At) (entry : Entry) : Type 0 where
  pub before : List (At × Entry)
  pub rest : List (At × Entry)
  pub is : entries ≡ before ++ (at, entry) ∷ rest
  pub once : list_any (is_at at) before ≡ false

-- what is read at a place
pub IsAt-entry_at : (entries : List (At × Entry)) (at : At) (entry : Entry) → entry_at entries at ≡ Some entry → IsAt entries at entry
IsAt-entry_at [] at entry read = absurd (cc)
IsAt-entry_at (e ∷ es) at entry read =
    elim (cases_Bool (is_at at e)) [
      | inl here ↦
          (let same : Some e.1 ≡ Some entry = rw here at read in
          let place = same_place at e here in
          let second : e.1 ≡ entry = cc in
          record { before = []; rest = es; is = ap (λ (x : At × Entry). x ∷ es) (λ i. (place i, second i)); once = refl })
      | inr later ↦
          (let rest = IsAt-entry_at es at entry (rw later at read) in
          record {
            before = e ∷ rest.before;
            rest = rest.rest;
            is = ap (λ xs. e ∷ xs) rest.is;
            once = list_any-cons_false (is_at at) e rest.before later rest.once;
          })
    ]

-- what is read at a place before which it doesn't stand
pub find-read : (entries before : List (At × Entry)) (at : At) (entry : Entry) (rest : List (At × Entry)) (read : Entry) →
    entries ≡ before ++ (at, entry) ∷ rest →
    list_any (is_at at) before ≡ false → entry_at entries at ≡ Some read → entry ≡ read
find-read entries before at entry rest read is once found =
    let here : find (is_at at) entries ≡ Some (at, entry) =
    ap (find (is_at at)) is ∙ find-once (is_at at) before (at, entry) rest once (is_at-same at entry) in
    let same : Some entry ≡ Some read = sym (ap (option_map (λ (e : At × Entry). e.1)) here) ∙ found in
    cc

-- what is read at a place that stands once
pub read-once : (entries before : List (At × Entry)) (at : At) (entry : Entry) (rest : List (At × Entry)) (read : Entry) →
    entries ≡ before ++ (at, entry) ∷ rest →
    count_by (is_at at) entries ≤ 1 → entry_at entries at ≡ Some read → entry ≡ read
read-once entries before at entry rest read is few found =
    find-read entries before at entry rest read is (once-before (is_at at) before (at, entry) rest (is_at-same at entry) (rw is at few)) found

-- the first place
pub IsAt-first : (entries : List (At × Entry)) (at : At) → Some at ≡ place_at entries 0 →
    (entry : Entry) × (rest : List (At × Entry)) × (entries ≡ (at, entry) ∷ rest)
IsAt-first [] at read = absurd (cc)
IsAt-first (e ∷ es) at read = let place : e.0 ≡ at = cc in (e.1, es, ap (λ (a : At). (a, e.1) ∷ es) place)

module _ (entries : List (At × Entry)) (left : At) (window : Entry) (before rest : List (At × Entry))
    (is : entries ≡ before ++ (left, window) ∷ rest) (once : list_any (is_at left) before ≡ false) where
  behind : place_at entries (index_of entries left + 1) ≡ place_at rest 0
  behind =
      let index : index_of entries left ≡ length before = ap (λ es. index_of es left) is ∙ index-once before left window rest once in
      let seam : index_of entries left + 1 ≡ length (before ++ (left, window) ∷ []) = omega (arith, index, length-append before ((left, window) ∷ [])) in
      let cut : entries ≡ (before ++ (left, window) ∷ []) ++ rest = is ∙ sym (append_assoc before ((left, window) ∷ []) rest) in
      ap (place_at entries) seam ∙ ap (λ es. place_at es (length (before ++ (left, window) ∷ []))) cut ∙ place_at-seam (before ++ (left, window) ∷ []) rest

  -- nothing stands after the last one
  pub nothing_behind : None ≡ place_at entries (index_of entries left + 1) → entries ≡ before ++ (left, window) ∷ []
  nothing_behind read = is ∙ ap (λ es. before ++ (left, window) ∷ es) (none-first rest (read ∙ behind))

  -- what stands after an entry is its neighbour
  pub neighbour : (right : At) (next : Entry) → Some right ≡ place_at entries (index_of entries left + 1) → entry_at entries right ≡ Some next →
      ((at : At) → count_by (is_at at) entries ≤ 1) → (after : List (At × Entry)) × (entries ≡ before ++ (left, window) ∷ (right, next) ∷ after)
      × (list_any (is_at right) (before ++ (left, window) ∷ []) ≡ false)
  neighbour right next place read apart =
      let there = IsAt-first rest right (place ∙ behind) in
      let cut : entries ≡ before ++ (left, window) ∷ (right, there.0) ∷ there.1 = is ∙ ap (λ es. before ++ (left, window) ∷ es) there.2 in
      let front = before ++ (left, window) ∷ [] in
      let moved : entries ≡ front ++ (right, there.0) ∷ there.1 = cut ∙ sym (append_assoc before ((left, window) ∷ []) ((right, there.0) ∷ there.1)) in
      let alone : list_any (is_at right) front ≡ false =
      once-before (is_at right) front (right, there.0) there.1 (is_at-same right there.0) (rw moved at (apart right)) in
      let one : there.0 ≡ next = read-once entries front right there.0 there.1 next moved (apart right) read in
      (there.1, cut ∙ ap (λ e. before ++ (left, window) ∷ (right, e) ∷ there.1) one, alone)

-- the entries without their places
abbrev pub entries_in : List (At × Entry) → List Entry
entries_in entries = map (λ (e : At × Entry). e.1) entries

-- the entry at a place, by its index
pub slice_get-entry : (entries : List (At × Entry)) (at : At) (e : Entry) → entry_at entries at ≡ Some e →
    slice_get (map (λ (x : At × Entry). x.1) entries) (index_of entries at) ≡ Some e
slice_get-entry entries at e is =
    slice_get-map (λ (x : At × Entry). x.1) entries (index_of entries at)
    ∙ ap (option_map (λ (x : At × Entry). x.1)) (sym (find_at (is_at at) entries)) ∙ is

-- the first place
pub index_of-first : (entries : List (At × Entry)) (found : Option At) → found ≡ place_at entries 0 →
    IfSome found (λ at. index_of entries at ≡ 0)
index_of-first entries None is = tt
index_of-first [] (Some at) is = absurd (cc)
index_of-first (e ∷ es) (Some at) is =
    let same : e.0 ≡ at = cc in
    let here : is_at at e ≡ true = eq-eqb e.0.0 at.0 (ap (λ (a : At). a.0) same) in
    rw here refl

-- an entry that stands is counted
count-one : (entries : List (At × Entry)) (k : ℕ) (at : At) → place_at entries k ≡ Some at → 1 ≤ count_by (is_at at) entries
count-one [] k at is = absurd (cc)
count-one (e ∷ es) zero at is =
    let same : e.0 ≡ at = cc in
    let here : is_at at e ≡ true = eq-eqb e.0.0 at.0 (ap (λ (a : At). a.0) same) in
    let one : cond {A = ℕ} (is_at at e) 1 0 ≡ 1 = cond-true (is_at at e) 1 0 here in
    omega (arith, one, sum_by-cons (λ x. cond (is_at at x) 1 0) e es)
count-one (e ∷ es) (suc k) at is = omega (arith, count-one es k at is, sum_by-cons (λ x. cond (is_at at x) 1 0) e es)

-- the index of the place that stands at an index
index_of-place_at : (entries : List (At × Entry)) (k : ℕ) (at : At) → count_by (is_at at) entries ≤ 1 → place_at entries k ≡ Some at →
    index_of entries at ≡ k
index_of-place_at [] k at once is = absurd (cc)
index_of-place_at (e ∷ es) zero at once is =
    let same : e.0 ≡ at = cc in
    let here : is_at at e ≡ true = eq-eqb e.0.0 at.0 (ap (λ (a : At). a.0) same) in
    rw here refl
index_of-place_at (e ∷ es) (suc k) at once is =
    let count = sum_by-cons (λ x. cond (is_at at x) 1 0) e es in
    elim (cases_Bool (is_at at e)) [
      | inl here ↦
          (let one : cond {A = ℕ} (is_at at e) 1 0 ≡ 1 = cond-true (is_at at e) 1 0 here in
          absurd (omega (arith, one, count, once, count-one es k at is)))
      | inr other ↦ (let later = index_of-place_at es k at (omega (arith, count, once)) is in rw other (omega (arith, later)))
    ]

pub index_of-next : (line : LineState) (k : ℕ) (found : Option At) → IsLine line → found ≡ place_at line.entries k →
    IfSome found (λ at. index_of line.entries at ≡ k)
index_of-next line k None is found = tt
index_of-next line k (Some at) is found = index_of-place_at line.entries k at (is.apart at) (sym found)
