-- Slots that are put last one by one: those of windows, and those of landmarks and their values.
use Rattle.ss_stream.proofs.Common.{◌≡◌, ◌∙◌, ℕ, ◌+◌, List, [], ◌∷◌, ◌++◌, map, take, ap, sym, Some, slice_get, take_more, get_or_from_slice_get}
use Rattle.ss_stream.proofs.Common.{slice_get_within, StandsIn, index_of, At, Entry, entries_in}
use Rattle.std.proofs.lemmas.List.{append_assoc, map_more}

-- the slots of entries
abbrev pub entry_slots : List Entry → List ℕ
entry_slots entries = map (λ (e : Entry). e.slot) entries

-- the slots of the windows up to a place were put last
pub record HasSlotsUpTo (was slots : List ℕ) (entries : List (At × Entry)) (at : At) : Type 0 where
  pub stands : StandsIn entries at
  pub put : slots ≡ was ++ entry_slots (take (index_of entries at + 1) (entries_in entries))

-- one more
pub slots-more : (was slots : List ℕ) (entries : List Entry) (k : ℕ) (e : Entry) → slots ≡ was ++ entry_slots (take k entries) →
    slice_get entries k ≡ Some e → slots ++ e.slot ∷ [] ≡ was ++ entry_slots (take (k + 1) entries)
slots-more was slots entries k e put at =
    let slot : Entry → ℕ = λ x. x.slot in
    let more : entry_slots (take (k + 1) entries) ≡ entry_slots (take k entries) ++ e.slot ∷ [] =
    map_more slot entries k e (slice_get_within entries k e at)
    ∙ ap (λ (x : Entry). entry_slots (take k entries) ++ x.slot ∷ []) (get_or_from_slice_get entries k e e at) in
    ap (λ l. l ++ e.slot ∷ []) put ∙ append_assoc was (entry_slots (take k entries)) (e.slot ∷ []) ∙ ap (λ l. was ++ l) (sym more)

pub number-more : (was slots xs : List ℕ) (k x : ℕ) → slots ≡ was ++ take k xs → slice_get xs k ≡ Some x → slots ++ x ∷ [] ≡ was ++ take (k + 1) xs
number-more was slots xs k x put at =
    let more : take (k + 1) xs ≡ take k xs ++ x ∷ [] =
    take_more xs k x (slice_get_within xs k x at) ∙ ap (λ y. take k xs ++ y ∷ []) (get_or_from_slice_get xs k x x at) in
    ap (λ l. l ++ x ∷ []) put ∙ append_assoc was (take k xs) (x ∷ []) ∙ ap (λ l. was ++ l) (sym more)
