-- Where entries stand in a line.
use Rattle.std.proofs.Common.{◌≡◌, ◌∙◌, ℕ, ◌+◌, ◌≤◌, Bool, true, false, cond, List, [], ◌∷◌, ◌++◌, length, refl, take}
use Rattle.std.proofs.Common.{sym, ap, arith, append_assoc, length-append, count_by, Some, inl, inr}
use Rattle.std.specs.List.{list_any, remove}
use Rattle.std.specs.Option.{option_map}
use Rattle.std.proofs.lemmas.Bool.{cases_Bool, cond-true, or_parts, both_ways}
use Rattle.std.proofs.lemmas.List.Sums.{sum_by-append, sum_by-cons}
use Rattle.ss_line.specs.Line.{StandsIn, entry_at, is_at, place_at}
use Rattle.ss_line.specs.declared.entry.At.{At}
use Rattle.ss_line.specs.declared.entry.Entry.{Entry}
pub use Rattle.ss_line.proofs.Places.{index-once}
use Rattle.ss_line.proofs.Places.{find-once, is_at-same, list_any-cons_false, once-before, place_at-seam, same_place}

-- no two entries stand at one place
abbrev pub AreApart : List (At × Entry) → Type 0
AreApart entries = (at : At) → count_by (is_at at) entries ≤ 1

-- an entry stands at a place, and none before it
pub record IsAt (entries : List (At × Entry)) (at : At) : Type 0 where
  pub before : List (At × Entry)
  pub entry : Entry
  pub rest : List (At × Entry)
  pub is : entries ≡ before ++ (at, entry) ∷ rest
  pub once : list_any (is_at at) before ≡ false

pub list_any-snoc_false : {X : Type 0} (p : X → Bool) (xs : List X) (x : X) → list_any p xs ≡ false → p x ≡ false →
    list_any p (xs ++ x ∷ []) ≡ false
list_any-snoc_false p [] x none last = rw last refl
list_any-snoc_false p (y ∷ ys) x none last =
    let parts = or_parts (p y) (list_any p ys) none in list_any-cons_false p y (ys ++ x ∷ []) parts.0 (list_any-snoc_false p ys x parts.1 last)

-- a place that stands
pub IsAt-stands : (entries : List (At × Entry)) (at : At) → StandsIn entries at → IsAt entries at
IsAt-stands [] at stands = absurd (omega (arith, stands))
IsAt-stands (e ∷ es) at stands =
    elim (cases_Bool (is_at at e)) [
      | inl here ↦
          (let place = same_place at e here in
          record { before = []; entry = e.1; rest = es; is = ap (λ (a : At). (a, e.1) ∷ es) place; once = refl })
      | inr later ↦
          (let below = rw later at stands in
          let rest = IsAt-stands es at (omega (arith, below)) in
          record {
            before = e ∷ rest.before;
            entry = rest.entry;
            rest = rest.rest;
            is = ap (λ xs. e ∷ xs) rest.is;
            once = list_any-cons_false (is_at at) e rest.before later rest.once;
          })
    ]

pub stands-once : (before : List (At × Entry)) (at : At) (entry : Entry) (rest : List (At × Entry)) → list_any (is_at at) before ≡ false →
    StandsIn (before ++ (at, entry) ∷ rest) at
stands-once before at entry rest once = omega (arith, index-once before at entry rest once, length-append before ((at, entry) ∷ rest))

pub entry-once : (before : List (At × Entry)) (at : At) (entry : Entry) (rest : List (At × Entry)) → list_any (is_at at) before ≡ false →
    entry_at (before ++ (at, entry) ∷ rest) at ≡ Some entry
entry-once before at entry rest once =
    ap (option_map (λ (e : At × Entry). e.1)) (find-once (is_at at) before (at, entry) rest once (is_at-same at entry))

none-counted : {X : Type 0} (p : X → Bool) (xs : List X) → count_by p xs ≤ 0 → list_any p xs ≡ false
none-counted p [] none = refl
none-counted p (x ∷ xs) none =
    let first = sum_by-cons (λ z. cond (p z) 1 0) x xs in
    elim (cases_Bool (p x)) [
      | inl passes ↦ (let one : cond {A = ℕ} (p x) 1 0 ≡ 1 = cond-true (p x) 1 0 passes in absurd (omega (arith, first, one, none)))
      | inr fails ↦ list_any-cons_false p x xs fails (none-counted p xs (omega (arith, first, none)))
    ]

-- what stands once is behind nothing of its kind
once-behind : {X : Type 0} (p : X → Bool) (before : List X) (x : X) (rest : List X) → p x ≡ true → count_by p (before ++ x ∷ rest) ≤ 1 →
    list_any p rest ≡ false
once-behind p before x rest passes few =
    let seam = sum_by-append (λ z. cond (p z) 1 0) before (x ∷ rest) in
    let here = sum_by-cons (λ z. cond (p z) 1 0) x rest in
    let one : cond {A = ℕ} (p x) 1 0 ≡ 1 = cond-true (p x) 1 0 passes in
    none-counted p rest (omega (arith, seam, here, one, few))

module _ (before : List (At × Entry)) (at : At) (entry : Entry) (rest : List (At × Entry)) (apart : AreApart (before ++ (at, entry) ∷ rest)) where
  pub apart-before : list_any (is_at at) before ≡ false
  apart-before = once-before (is_at at) before (at, entry) rest (is_at-same at entry) (apart at)

  pub apart-behind : list_any (is_at at) rest ≡ false
  apart-behind = once-behind (is_at at) before (at, entry) rest (is_at-same at entry) (apart at)

-- the place behind the one before which these stand
pub place_at-behind : (before : List (At × Entry)) (e : At × Entry) (rest : List (At × Entry)) →
    place_at (before ++ e ∷ rest) (length before + 1) ≡ place_at rest 0
place_at-behind before e rest =
    let long : length before + 1 ≡ length (before ++ e ∷ []) = omega (arith, length-append before (e ∷ [])) in
    ap (place_at (before ++ e ∷ rest)) long ∙ ap (λ es. place_at es (length (before ++ e ∷ []))) (sym (append_assoc before (e ∷ []) rest))
    ∙ place_at-seam (before ++ e ∷ []) rest

pub take-seam : {X : Type 0} (xs ys : List X) → take (length xs) (xs ++ ys) ≡ xs
take-seam [] ys = refl
take-seam (x ∷ xs) ys = ap (λ zs. x ∷ zs) (take-seam xs ys)

pub remove-seam : {X : Type 0} (xs : List X) (x : X) (ys : List X) → remove (xs ++ x ∷ ys) (length xs) ≡ xs ++ ys
remove-seam [] x ys = refl
remove-seam (z ∷ zs) x ys = ap (λ l. z ∷ l) (remove-seam zs x ys)

-- a list is empty, or has a last element
pub data Ends {X : Type 0} : List X → Type 0 where
  without_last : Ends []
  with_last : (front : List X) (x : X) → Ends (front ++ x ∷ [])

pub ends : {X : Type 0} (xs : List X) → Ends xs
ends [] = without_last
ends (x ∷ xs) = elim (ends xs) as (λ ys e. Ends (x ∷ ys)) [ without_last ↦ with_last [] x | with_last front y ↦ with_last (x ∷ front) y ]

some-counted : {X : Type 0} (p : X → Bool) (xs : List X) → list_any p xs ≡ true → 1 ≤ count_by p xs
some-counted p [] some = absurd (both_ways false refl some)
some-counted p (x ∷ xs) some =
    let first = sum_by-cons (λ z. cond (p z) 1 0) x xs in
    elim (cases_Bool (p x)) [
      | inl passes ↦ (let one : cond {A = ℕ} (p x) 1 0 ≡ 1 = cond-true (p x) 1 0 passes in omega (arith, first, one))
      | inr fails ↦ (let later : list_any p xs ≡ true = rw fails at some in omega (arith, first, some-counted p xs later))
    ]

-- a place in one part of a line is in no other
pub apart-parts : (xs ys : List (At × Entry)) (at : At) → AreApart (xs ++ ys) → list_any (is_at at) xs ≡ true → list_any (is_at at) ys ≡ false
apart-parts xs ys at apart some =
    elim (cases_Bool (list_any (is_at at) ys)) [
      | inl also ↦ absurd (omega (
        arith,
        apart at,
        sum_by-append (λ e. cond (is_at at e) 1 0) xs ys,
        some-counted (is_at at) xs some,
        some-counted (is_at at) ys also,
      ))
      | inr none ↦ none
    ]

pub AreApart-tail : (e : At × Entry) (es : List (At × Entry)) → AreApart (e ∷ es) → AreApart es
AreApart-tail e es apart at = omega (arith, apart at, sum_by-cons (λ x. cond (is_at at x) 1 0) e es)

pub AreApart-seam : (entries before : List (At × Entry)) → entries ≡ before → AreApart entries → AreApart before
AreApart-seam entries before is apart = rw is at apart

-- a place that doesn't stand
pub fresh-none : (entries : List (At × Entry)) (at : At) → ¬ StandsIn entries at → list_any (is_at at) entries ≡ false
fresh-none [] at fresh = refl
fresh-none (e ∷ es) at fresh =
    elim (cases_Bool (is_at at e)) [
      | inl here ↦ absurd (fresh (rw here (omega arith)))
      | inr later ↦ list_any-cons_false (is_at at) e es later (fresh-none es at (λ stands. fresh (rw later (omega (arith, stands)))))
    ]

-- the first place
pub some-first : (entries : List (At × Entry)) (at : At) → Some at ≡ place_at entries 0 →
    (e : At × Entry) × (es : List (At × Entry)) × (entries ≡ e ∷ es) × (e.0 ≡ at)
some-first [] at read = absurd (cc)
some-first (e ∷ es) at read = let place : e.0 ≡ at = cc in (e, es, refl, place)
