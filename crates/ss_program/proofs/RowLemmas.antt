-- What sending rows leaves, one after the other, and where the window that is next stands.
use Rattle.ss_program.proofs.Common.{◌≡◌, ℕ, suc, ◌+◌, ◌≤◌, ◌++◌, List, [], ◌∷◌, length, map, take, drop, take_all, Option, Some, None, IsSome, IfSome, Ok, Err}
use Rattle.ss_program.proofs.Common.{Result, sym, ap, ◌∙◌, arith, inl, inr, drop-cons, flat_map-append, append-nil, length-append, take-append-drop}
use Rattle.ss_program.proofs.Common.{take-append-le, take_more, get_or_from_slice_get, slice_get-map, slice_get_cases, slice_get_within, flat_map, slice_get}
use Rattle.ss_program.proofs.Common.{option_map, index_of, place_at, Stream, said_line, Reply, appended, AppendsLess, Sends}
use Rattle.ss_line.specs.declared.entry.At.{At}
use Rattle.ss_line.specs.declared.entry.Entry.{Entry}
use Rattle.ss_program.proofs.SendLemmas.{AppendsLess-after, appended-appended}
use Rattle.ss_program.specs.Rows.{place_next}

module _ (speaker : Option ℕ) where
  -- a head was sent, and then its rows
  pub Sends-head : (before held after : Option (List ℕ)) (head : Reply) (rows : List Reply) {E : Type 0} (sent : Result (Unit {0}) E) →
      held ≡ appended before (said_line speaker head) → Sends held after (flat_map (said_line speaker) rows) sent →
      Sends before after (flat_map (said_line speaker) (head ∷ rows)) sent
  Sends-head before held after head rows (Ok u) is sends =
      sends ∙ ap (λ o. appended o (flat_map (said_line speaker) rows)) is ∙ appended-appended before (said_line speaker head) (flat_map (said_line speaker)
      rows)
  Sends-head before held after head rows (Err e) is sends =
      rw append-nil at (AppendsLess-after before held after (said_line speaker head) (flat_map (said_line speaker) rows) [] is sends)

  -- or less than the head
  pub AppendsLess-head : (before after : Option (List ℕ)) (head : Reply) (rows : List Reply) → AppendsLess before after (said_line speaker head) →
      AppendsLess before after (flat_map (said_line speaker) (head ∷ rows))
  AppendsLess-head before after head rows less = (
    less.0,
    omega (arith, less.1, length-append (said_line speaker head) (flat_map (said_line speaker) rows)),
    less.2 ∙ ap (λ bs. appended before bs) (sym (take-append-le less.0 (said_line speaker head) (flat_map (said_line speaker) rows) (omega (arith, less.1)))),
  )

-- the element at a place is the first of those from there on
pub drop-at : {X : Type 0} (xs : List X) (place : ℕ) (x : X) → slice_get xs place ≡ Some x → drop place xs ≡ x ∷ drop (place + 1) xs
drop-at xs place x is =
    let next : suc place ≡ place + 1 = omega arith in
    drop-cons xs place x (slice_get_within xs place x is)
    ∙ ap (λ y. y ∷ drop (suc place) xs) (get_or_from_slice_get xs place x x is) ∙ ap (λ n. x ∷ drop n xs) next

-- the row at a place stands between those before it and others
rows-at : (rows : List Reply) (place : ℕ) (row : Reply) → slice_get rows place ≡ Some row →
    (others : List Reply) × (rows ≡ take place rows ++ row ∷ others) × (take (place + 1) rows ≡ take place rows ++ row ∷ [])
rows-at rows place row is =
    let inside = slice_get_within rows place row is in
    let here = get_or_from_slice_get rows place row row is in (
      drop (suc place) rows,
      sym (take-append-drop place rows) ∙ ap (λ rs. take place rows ++ rs) (drop-cons rows place row inside ∙ ap (λ r. r ∷ drop (suc place) rows) here),
      take_more rows place row inside ∙ ap (λ r. take place rows ++ r ∷ []) here,
    )

-- a row as a reply
row-option : {A B : Type 0} (f : A → B) (g : B → Reply) (o : Option A) (b : B) → option_map f o ≡ Some b → option_map (λ x. g (f x)) o ≡ Some (g b)
row-option f g None b is = cc
row-option f g (Some x) b is = cc

pub row-reply : {A B : Type 0} (f : A → B) (g : B → Reply) (xs : List A) (place : ℕ) (b : B) → slice_get (map f xs) place ≡ Some b →
    slice_get (map (λ x. g (f x)) xs) place ≡ Some (g b)
row-reply f g xs place b is =
    slice_get-map (λ x. g (f x)) xs place ∙ row-option f g (slice_get xs place) b (sym (slice_get-map f xs place) ∙ is)

module _ (speaker : Option ℕ) where
  -- the first rows were sent, and one more
  pub rows-more : (before held after : Option (List ℕ)) (rows : List Reply) (place : ℕ) (row : Reply) → slice_get rows place ≡ Some row →
      held ≡ appended before (flat_map (said_line speaker) (take place rows)) → after ≡ appended held (said_line speaker row) →
      after ≡ appended before (flat_map (said_line speaker) (take (place + 1) rows))
  rows-more before held after rows place row at is sent =
      let split = rows-at rows place row at in
      sent ∙ ap (λ o. appended o (said_line speaker row)) is
      ∙ appended-appended before (flat_map (said_line speaker) (take place rows)) (said_line speaker row)
      ∙ ap (λ bs. appended before bs) (ap (λ bs. flat_map (said_line speaker) (take place rows) ++ bs) (sym (append-nil (said_line speaker row)))
      ∙ sym (flat_map-append (said_line speaker) (take place rows) (row ∷ [])) ∙ ap (λ rs. flat_map (said_line speaker) rs) (sym split.2))

  -- or less than one more
  pub rows-less : (before held after : Option (List ℕ)) (rows : List Reply) (place : ℕ) (row : Reply) → slice_get rows place ≡ Some row →
      held ≡ appended before (flat_map (said_line speaker) (take place rows)) → AppendsLess held after (said_line speaker row) →
      AppendsLess before after (flat_map (said_line speaker) rows)
  rows-less before held after rows place row at is less =
      let split = rows-at rows place row at in
      rw (sym (flat_map-append (said_line speaker) (take place rows) (row ∷ split.0)) ∙ ap (λ rs. flat_map (said_line speaker) rs) (sym split.1)) at
      (AppendsLess-after before held after (flat_map (said_line speaker) (take place rows)) (said_line speaker row) (flat_map (said_line speaker) split.0) is
      less)

  -- all rows were sent
  pub rows-all : (before after : Option (List ℕ)) (rows : List Reply) (count : ℕ) → count ≡ length rows →
      after ≡ appended before (flat_map (said_line speaker) (take count rows)) → after ≡ appended before (flat_map (said_line speaker) rows)
  rows-all before after rows count all is = is ∙ ap (λ rs. appended before (flat_map (said_line speaker) rs)) (take_all count rows (omega (arith, all)))

-- the window at an index is next
pub rows_at : (entries : List (At × Entry)) (index : ℕ) (next : Option At) → index ≤ length entries → next ≡ place_at entries index →
    IfSome next (λ at. index_of entries at ≡ index) → place_next entries next ≡ index
rows_at entries index None within is same =
    let past = (slice_get_cases entries index).1 in
    elim past [
      | inl inside ↦ (let none : None ≡ option_map (λ (e : At × Entry). e.0) (slice_get entries index) = is in
          let some : slice_get entries index ≡ Some inside.0 = inside.2 in
          let wrong : None ≡ option_map (λ (e : At × Entry). e.0) (Some inside.0) = rw some at none in cc)
      | inr outside ↦ omega (arith, outside.0, within)
    ]
rows_at entries index (Some at) within is same = same

-- how many windows are counted
pub windows-count : {P : Type 0} (part : Option P) (entries_of : P → List (At × Entry)) (s : Stream) (count : ℕ) → IsSome part →
    IfSome part (λ p. count ≡ length (entries_of p)) → IfSome part (λ p. length (entries_of p) ≡ length s.windows) → count ≡ length s.windows
windows-count None entries_of s count some is all = cc
windows-count (Some p) entries_of s count some is all = is ∙ all
