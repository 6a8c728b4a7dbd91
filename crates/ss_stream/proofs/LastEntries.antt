-- The last entry of a line.
use Rattle.ss_stream.proofs.Common.{◌≡◌, ◌∙◌, ◌≤◌, List, [], ◌∷◌, ◌++◌, length, sym, ap, Some, map-append, entry_at, is_at, place_at, place_before, At, Entry}
use Rattle.ss_stream.proofs.Common.{values_held, entries_in, read-once}
use Rattle.std.proofs.Common.{count_by}
use Rattle.ss_stream.proofs.Spans.{values_held-seam}

last-place : (e : At × Entry) (es : List (At × Entry)) (at : At) → Some at ≡ place_at (e ∷ es) (length es) →
    (front : List (At × Entry)) × (last : Entry) × (e ∷ es ≡ front ++ (at, last) ∷ [])
last-place e [] at read = let place : e.0 ≡ at = cc in ([], e.1, ap (λ (a : At). (a, e.1) ∷ []) place)
last-place e (f ∷ fs) at read = let rest = last-place f fs at read in (e ∷ rest.0, rest.1, ap (λ es. e ∷ es) rest.2)

-- the last entry, by its place, says how many values are held
pub values_held-last : (entries : List (At × Entry)) (at : At) (entry : Entry) → ((a : At) → count_by (is_at a) entries ≤ 1) →
    Some at ≡ place_before entries (length entries) → entry_at entries at ≡ Some entry → entry.last ≡ values_held (entries_in entries)
values_held-last [] at entry apart place read = absurd (cc)
values_held-last (e ∷ es) at entry apart place read =
    let end = last-place e es at place in
    let same : end.1 ≡ entry = read-once (e ∷ es) end.0 at end.1 [] entry end.2 (apart at) read in
    let all : entries_in (e ∷ es) ≡ entries_in end.0 ++ end.1 ∷ [] =
    ap (λ xs. entries_in xs) end.2 ∙ map-append (λ (x : At × Entry). x.1) end.0 ((at, end.1) ∷ []) in
    ap (λ (x : Entry). x.last) (sym same) ∙ sym (values_held-seam (entries_in end.0) end.1 []) ∙ ap (λ xs. values_held xs) (sym all)
