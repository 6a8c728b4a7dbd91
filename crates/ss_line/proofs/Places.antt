-- Where entries stand in a line: what is before a place, and what is found there.
use Rattle.std.proofs.Common.{◌≡◌, ℕ, ◌≤◌, Bool, true, false, cond, List, [], ◌∷◌, ◌++◌, length, refl, ap, arith, count_by, Some, None, inl, inr}
use Rattle.std.specs.List.{find, list_any, position_or_len}
use Rattle.std.proofs.lemmas.Bool.{cases_Bool, cond-true, eqb-true, eq-eqb, or_parts}
use Rattle.std.proofs.lemmas.List.Sums.{sum_by-append, sum_by-cons}
use Rattle.ss_line.specs.Line.{index_of, is_at, place_at}
use Rattle.ss_line.specs.declared.entry.At.{At}
use Rattle.ss_line.specs.declared.entry.Entry.{Entry}

pub is_at-same : (at : At) (entry : Entry) → is_at at (at, entry) ≡ true
is_at-same at entry = eq-eqb at.0 at.0 refl

pub same_place : (at : At) (e : At × Entry) → is_at at e ≡ true → e.0 ≡ at
same_place at e is = let same = eqb-true e.0.0 at.0 is in ap (λ n. let a : At = record { 0 = n } in a) same

pub list_any-cons_false : {X : Type 0} (p : X → Bool) (x : X) (xs : List X) → p x ≡ false → list_any p xs ≡ false → list_any p (x ∷ xs) ≡ false
list_any-cons_false p x xs first rest = rw (first, rest) refl

pub position-once : {X : Type 0} (p : X → Bool) (before : List X) (x : X) (rest : List X) → list_any p before ≡ false → p x ≡ true →
    position_or_len p (before ++ x ∷ rest) ≡ length before
position-once p [] x rest once passes = rw passes refl
position-once p (y ∷ ys) x rest once passes =
    let parts = or_parts (p y) (list_any p ys) once in
    let later = position-once p ys x rest parts.1 passes in
    rw parts.0 (omega (arith, later))

pub index-once : (before : List (At × Entry)) (at : At) (entry : Entry) (rest : List (At × Entry)) → list_any (is_at at) before ≡ false →
    index_of (before ++ (at, entry) ∷ rest) at ≡ length before
index-once before at entry rest once = position-once (is_at at) before (at, entry) rest once (is_at-same at entry)

pub find-once : {X : Type 0} (p : X → Bool) (before : List X) (x : X) (rest : List X) → list_any p before ≡ false → p x ≡ true →
    find p (before ++ x ∷ rest) ≡ Some x
find-once p [] x rest once passes = rw passes refl
find-once p (y ∷ ys) x rest once passes =
    let parts = or_parts (p y) (list_any p ys) once in rw parts.0 (find-once p ys x rest parts.1 passes)

-- what stands once is before nothing of its kind
pub once-before : {X : Type 0} (p : X → Bool) (before : List X) (x : X) (rest : List X) → p x ≡ true → count_by p (before ++ x ∷ rest) ≤ 1 →
    list_any p before ≡ false
once-before p [] x rest passes few = refl
once-before p (y ∷ ys) x rest passes few =
    let seam = sum_by-append (λ z. cond (p z) 1 0) ys (x ∷ rest) in
    let here = sum_by-cons (λ z. cond (p z) 1 0) x rest in
    let one : cond {A = ℕ} (p x) 1 0 ≡ 1 = cond-true (p x) 1 0 passes in
    let first = sum_by-cons (λ z. cond (p z) 1 0) y (ys ++ x ∷ rest) in
    elim (cases_Bool (p y)) [
      | inl also ↦
          (let another : cond {A = ℕ} (p y) 1 0 ≡ 1 = cond-true (p y) 1 0 also in absurd (omega (arith, seam, here, one, first, another, few)))
      | inr fails ↦ list_any-cons_false p y ys fails (once-before p ys x rest passes (omega (arith, first, few)))
    ]

pub place_at-seam : (before after : List (At × Entry)) → place_at (before ++ after) (length before) ≡ place_at after 0
place_at-seam [] after = refl
place_at-seam (e ∷ es) after = place_at-seam es after

-- the first place
pub none-first : (entries : List (At × Entry)) → None ≡ place_at entries 0 → entries ≡ []
none-first [] read = refl
none-first (e ∷ es) read = absurd (cc)
