-- A slot that has changed where a window of a stream was read is that of a window of the stream.
use Rattle.ss_store.proofs.Common.{◌≡◌, ◌∙◌, ℕ, List, get_or, sym, ap, Some, Err, IfSome, option_map, slice_get, find_at, get_or_from_slice_get}
use Rattle.ss_store.proofs.Common.{slice_get-get_or, slice_get-map, slice_get_within, IfChanged, StandsIn, entry_at, index_of, is_at, At, Entry, Newest}
use Rattle.ss_store.proofs.Common.{Placed, window_slots_of, slice_get-entry, entries_of, StreamParts, verdict_of_ask, part_named, part_numbered, AskError}
use Rattle.std.specs.List.{Contains}
use Rattle.ss_store.specs.declared.error.AskError.TheVariants as ask

-- a place that stands has an entry
entry-stands : (entries : List (At × Entry)) (at : At) → StandsIn entries at → (e : Entry) × (entry_at entries at ≡ Some e)
entry-stands entries at stands =
    let none : Entry = record { first = 0; last = 0; t_first = 0; t_last = 0; slot = 0 } in
    let here = get_or entries (index_of entries at) (at, none) in (
      here.1,
      ap (option_map (λ (e : At × Entry). e.1)) (find_at (is_at at) entries ∙ slice_get-get_or entries (index_of entries at) (at, none) stands),
    )

-- and its slot is one of those of windows
Contains-slot : (part : StreamParts) (at : At) (e : Entry) → entry_at part.line.entries at ≡ Some e → Contains (window_slots_of part) e.slot
Contains-slot part at e is =
    let place = index_of part.line.entries at in
    let here : slice_get (window_slots_of part) place ≡ Some e.slot =
    slice_get-map (λ (x : Entry). x.slot) (entries_of part) place ∙ ap (option_map (λ (x : Entry). x.slot)) (slice_get-entry part.line.entries at e is) in
    (place, slice_get_within (window_slots_of part) place e.slot here, get_or_from_slice_get (window_slots_of part) place e.slot e.slot here)

pub IfChanged-window : (e : AskError) (parts : List StreamParts) (number : ℕ) (name : List ℕ) (part : StreamParts) (at : At) →
    part_numbered number parts ≡ Some part → part_numbered number parts ≡ part_named name parts → StandsIn part.line.entries at →
    IfChanged (verdict_of_ask {T = Placed} (Err e)) (λ slot. IfSome (part_numbered number parts) (λ p.
    IfSome (entry_at p.line.entries at) (λ entry. slot ≡ entry.slot))) →
    IfChanged (verdict_of_ask {T = Newest} (Err e)) (λ slot. IfSome (part_named name parts) (λ p. Contains (window_slots_of p) slot))
IfChanged-window (ask.Refused r) parts number name part at numbered same stands given = tt
IfChanged-window ask.Disk parts number name part at numbered same stands given = tt
IfChanged-window ask.Stopped parts number name part at numbered same stands given = tt
IfChanged-window (ask.Changed slot) parts number name part at numbered same stands given =
    let entry = entry-stands part.line.entries at stands in
    let is : slot ≡ entry.0.slot = rw (numbered, entry.1) at given in
    let named : part_named name parts ≡ Some part = sym same ∙ numbered in
    rw (named, is) (Contains-slot part at entry.0 entry.1)
