-- Where each slot stands among those of all records.
use Rattle.std.proofs.Common.{◌≡◌, ◌∙◌, ℕ, ◌+◌, ◌-◌, ◌<◌, ◌≤◌, List, ◌++◌, length, map, slice_get, get_or, [], ◌∷◌, Some, refl, sym, ap, arith}
use Rattle.std.proofs.lemmas.List.{append_assoc, length-append, length-map, get_or-append-add, get_or-map}
use Rattle.std.proofs.lemmas.Option.{slice_get_read}
use Rattle.std.proofs.Math.Seq.{get_or-append_seam}
use Rattle.ss_landmarks.specs.Stored.{slots_of}
use Rattle.ss_landmarks.specs.declared.stored.Closed.{Closed}
use Rattle.ss_landmarks.specs.declared.stored.Opened.{Opened}
use Rattle.ss_landmarks.specs.declared.stored.StoredValue.{StoredValue}

-- the slots of values, in order
abbrev pub value_slots_of : List StoredValue → List ℕ
value_slots_of values = map (λ value. value.slot) values

-- the slot of a value stands after as many as there are before its list, and as many as there are before it in the list
pub slot_at-value : (slots : List ℕ) (values : List StoredValue) (place before : ℕ) (value : StoredValue) → length slots ≡ before → before ≤ place
    → place < before + length values → value ≡ get_or values (place - before) value → slice_get (slots ++ value_slots_of values) place ≡ Some value.slot
slot_at-value slots values place before value long after inside is =
    let slot : StoredValue → ℕ = λ value. value.slot in
    let split : place ≡ length slots + (place - before) = omega arith in
    let there : get_or (slots ++ value_slots_of values) place value.slot ≡ value.slot =
    ap (λ (k : ℕ). get_or (slots ++ value_slots_of values) k value.slot) split
    ∙ get_or-append-add slots (value_slots_of values) (place - before) value.slot
    ∙ get_or-map slot values (place - before) value value.slot (omega arith)
    ∙ ap slot (sym is) in
    slice_get_read (slots ++ value_slots_of values) (before + length values) place value.slot
    (omega (arith, length-append slots (value_slots_of values), length-map values slot)) inside (sym there)

-- the slot of the open landmark stands after those of the closed ones
pub slot_at-open : (cs : List Closed) (o : Opened) (value_slots : List ℕ) (place : ℕ) → place ≡ length cs
    → slice_get (slots_of cs (Some o) ++ value_slots) place ≡ Some o.slot
slot_at-open cs o value_slots place is =
    let slot : Closed → ℕ = λ c. c.slot in
    let all = slots_of cs (Some o) ++ value_slots in
    let size = length-map cs slot in
    let there : get_or all place o.slot ≡ o.slot =
    ap (λ (k : ℕ). get_or all k o.slot) (is ∙ sym size)
    ∙ ap (λ (slots : List ℕ). get_or slots (length (map slot cs)) o.slot) (append_assoc (map slot cs) (o.slot ∷ []) value_slots)
    ∙ get_or-append_seam (map slot cs) o.slot value_slots o.slot in
    slice_get_read all (length all) place o.slot refl
    (omega (arith, size, length-append (slots_of cs (Some o)) value_slots, length-append (map slot cs) (o.slot ∷ []))) (sym there)
