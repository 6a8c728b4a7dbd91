-- The records in the slots of an image, in whichever order, and those of windows among them.
use Rattle.std.proofs.Common.{◌≡◌, ◌∙◌, ℕ, true, List, [], ◌∷◌, ◌++◌, length, map, filter, not, refl, sym, ap, ap₂, arith, IsPermutation, Option, Some}
use Rattle.std.specs.Prelude.{zip}
use Rattle.std.specs.List.{AllByRecursion, range_with_len}
use Rattle.std.proofs.lemmas.List.{length-map, map-append}
use Rattle.std.proofs.lemmas.List.Elements.{All-from_recursion, recursion_from_All}
use Rattle.std.proofs.lemmas.List.Sorted.{All-permutation, IsPermutation-sym, IsPermutation-trans}
use Rattle.ss_journal.proofs.RedoLemmas.{StandsFor-same}
use Rattle.ss_records.specs.Live.{are_zeros}
use Rattle.ss_codec.specs.Decoded.{decoded}
use Rattle.ss_codec.specs.declared.record.Record.{Record}
use Rattle.ss_codec.specs.declared.record.Record.TheVariants as records
use Rattle.ss_landmarks.specs.Landmark.{Landmark}
use Rattle.ss_line.specs.declared.entry.Entry.{Entry}
use Rattle.ss_summary.specs.Figures.{Figures}
use Rattle.ss_model.specs.Marks.{lies_free}
use Rattle.ss_model.specs.declared.types.Window.{Window}
use Rattle.ss_parts.specs.Held.{occupied, span_held, span_of, window_record}
use Rattle.ss_parts.proofs.WholeMaps.{HasWholeSlots-StandsFor, occupied-same}
use Rattle.ss_parts.specs.Slots.{HasRecords}

-- the order of the records says nothing
pub HasRecords-permutation : (slots others : List (ℕ × Option Record)) (image : List ℕ) → IsPermutation slots others → HasRecords slots image →
    HasRecords others image
HasRecords-permutation slots others image moved has = record {
  found = has.found;
  map = has.map;
  occupied = IsPermutation-trans others slots (occupied has.found) (IsPermutation-sym slots others moved) has.occupied;
}

-- an image has the same records, however they are told
pub HasRecords-same : (slots others : List (ℕ × Option Record)) (image : List ℕ) → HasRecords slots image → HasRecords others image →
    IsPermutation slots others
HasRecords-same slots others image first second =
    let same = StandsFor-same image first.found second.found first.map second.map in
    let few = (HasWholeSlots-StandsFor image first.found first.map).few in
    let found = occupied-same first.found second.found few same in
    IsPermutation-trans slots (occupied second.found) others (rw found at first.occupied) (IsPermutation-sym others (occupied second.found) second.occupied)

-- what the slots of a list spell
spelled-filled : (bytes : ℕ → List ℕ) (slots : List ℕ) →
    AllByRecursion (λ (e : ℕ × Option Record). decoded (bytes e.0) ≡ e.1) (map (λ slot. (slot, decoded (bytes slot))) slots)
spelled-filled bytes [] = tt
spelled-filled bytes (slot ∷ slots) = (refl, spelled-filled bytes slots)

-- a slot has the bytes of its record
pub HasRecords-spelled : (slot : ℕ) (r : Record) (others : List (ℕ × Option Record)) (image : List ℕ) (has : HasRecords ((slot, Some r) ∷ others) image) →
    decoded (has.found.bytes slot) ≡ Some r
HasRecords-spelled slot r others image has =
    let P : ℕ × Option Record → Type 0 = λ e. decoded (has.found.bytes e.0) ≡ e.1 in
    let all = spelled-filled has.found.bytes (filter (λ slot. not (are_zeros (has.found.bytes slot))) (range_with_len 0 has.found.extent)) in
    (recursion_from_All P ((slot, Some r) ∷ others)
    (All-permutation P (occupied has.found) ((slot, Some r) ∷ others) (IsPermutation-sym ((slot, Some r) ∷ others) (occupied has.found) has.occupied)
    (All-from_recursion P (occupied has.found) all))).0

-- a window whose record was read as that of an entry lies free as that does
pub lies_free-read : (landmarks : List Landmark) (number : ℕ) (entry : Entry) (w : Window) (summary : Figures) (spelled : Option Record) →
    spelled ≡ Some (window_record number w) → spelled ≡ Some (records.Window number entry.first summary) → lies_free landmarks w ≡ true →
    lies_free landmarks (record { first = entry.first; summary = summary }) ≡ true
lies_free-read landmarks number entry w summary spelled read is free =
    let both = sym read ∙ is in
    let first : w.first ≡ entry.first = cc both in
    let same : w.summary ≡ summary = cc both in
    let window : w ≡ record { first = entry.first; summary = summary } = λ i. record { first = first i; summary = same i } in
    rw window at free

zip-append : {X Y : Type 0} (xs us : List X) (ys vs : List Y) → length xs ≡ length ys → zip (xs ++ us) (ys ++ vs) ≡ zip xs ys ++ zip us vs
zip-append [] us [] vs same = refl
zip-append [] us (y ∷ ys) vs same = absurd (omega arith)
zip-append (x ∷ xs) us [] vs same = absurd (omega arith)
zip-append (x ∷ xs) us (y ∷ ys) vs same = ap (λ l. (x, y) ∷ l) (zip-append xs us ys vs (omega arith))

-- the windows of a stream and their entries, cut at one place
pub same-length : (es : List Entry) (ws : List Window) → map span_held es ≡ map span_of ws → length es ≡ length ws
same-length es ws same = let long = ap (λ l. length l) same in omega (arith, long, length-map es span_held, length-map ws span_of)

pub zip-held : (number : ℕ) (front : List Entry) (es : List Entry) (before : List Window) (ws : List Window) → map span_held front ≡ map span_of before →
    zip (map (λ (e : Entry). e.slot) (front ++ es)) (map (λ x. Some (window_record number x)) (before ++ ws))
    ≡ zip (map (λ (e : Entry). e.slot) front) (map (λ x. Some (window_record number x)) before)
    ++ zip (map (λ (e : Entry). e.slot) es) (map (λ x. Some (window_record number x)) ws)
zip-held number front es before ws same =
    let slots : List Entry → List ℕ = λ l. map (λ (e : Entry). e.slot) l in
    let spelled : List Window → List (Option Record) = λ l. map (λ x. Some (window_record number x)) l in
    let long : length (slots front) ≡ length (spelled before) =
    omega (arith, length-map front (λ (e : Entry). e.slot), length-map before (λ x. Some (window_record number x)), same-length front before same) in
    ap₂ (λ (xs : List ℕ) (ys : List (Option Record)). zip xs ys) (map-append (λ (e : Entry). e.slot) front es)
    (map-append (λ x. Some (window_record number x)) before ws)
    ∙ zip-append (slots front) (slots es) (spelled before) (spelled ws) long
