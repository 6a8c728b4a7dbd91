-- How many slots are live, and how many records the streams need.
use Rattle.ss_store.proofs.Common.{◌≡◌, ℕ, ◌+◌, ◌<◌, ◌≤◌, Bool, false, List, [], ◌∷◌, ◌++◌, length, map, flat_map, refl, ap, sym, ◌∙◌, arith, cond, None}
use Rattle.ss_store.proofs.Common.{Some, nat_le, slice_get, IfSome, IsNone, ◌↔◌, range_with_len, nat_tests, length-map, length-flat_map, length-flat_map-take}
use Rattle.ss_store.proofs.Common.{sum_by-cons, get_or_from_slice_get, slice_get_within, MOST_SLOTS, all_values, is_live, Stream, live, records_of}
use Rattle.ss_store.proofs.Common.{MOST_RECORDS, Agrees, AllAgree, AreWhole, AreWholeBeside, entries_of, mark_slots, slots_held, window_slots, StreamParts}
use Rattle.ss_store.proofs.Common.{Entry, slots_in_turn, live_slots}
use Rattle.std.specs.Prelude.{count_by, Option, IsTrue}
use Rattle.std.proofs.lemmas.List.{get_or_default, length-append, same_lists}
use Rattle.std.proofs.lemmas.List.FromFn.{get_or-map-range_with_len, length-map-range_with_len}
use Rattle.std.proofs.lemmas.List.Sorted.{length_permutation}
use Rattle.std.proofs.lemmas.List.Sums.{length-filter}
use Rattle.ss_records.specs.Live.{live_count}
use Rattle.ss_stream.proofs.HeldCounts.{length-Agrees}

count_by-map : {X Y : Type 0} (p : Y → Bool) (f : X → Y) (xs : List X) → count_by (λ x. p (f x)) xs ≡ count_by p (map f xs)
count_by-map p f [] = refl
count_by-map p f (x ∷ xs) =
    omega (arith, count_by-map p f xs, sum_by-cons (λ y. cond (p (f y)) 1 0) x xs, sum_by-cons (λ y. cond (p y) 1 0) (f x) (map f xs))

-- whether each slot is live, told of each in order
map-is_live : (slots : List Bool) → map (is_live slots) (range_with_len 0 (length slots)) ≡ slots
map-is_live slots =
    let all = length-map-range_with_len (is_live slots) 0 (length slots) in
    same_lists (map (is_live slots) (range_with_len 0 (length slots))) slots all
    (λ k d inside.
    let within : k < length slots = omega arith in
    get_or-map-range_with_len (is_live slots) 0 (length slots) k k d within (omega arith) ∙ get_or_default slots k false d within)

pub length-live_slots : (slots : List Bool) → length (live_slots slots) ≡ live_count slots
length-live_slots slots =
    length-filter (is_live slots) (range_with_len 0 (length slots))
    ∙ count_by-map (λ (is : Bool). is) (is_live slots) (range_with_len 0 (length slots))
    ∙ ap (λ l. live_count l) (map-is_live slots)

-- the slots of one stream: its own, and those of its windows, of its landmarks and of the values of these
pub length-slots_held : (part : StreamParts) →
    length (slots_held part) ≡ 1 + length part.line.entries + length part.landmarks.slots + length part.landmarks.value_slots
length-slots_held part =
    omega (
      arith,
      length-append (window_slots part) (mark_slots part),
      length-append part.landmarks.slots part.landmarks.value_slots,
      length-map (entries_of part) (λ e. e.slot),
      length-map part.line.entries (λ e. e.1),
    )

-- they are as many in whichever order
pub length-slots_in_turn : (part : StreamParts) → length (slots_in_turn part) ≡ length (slots_held part)
length-slots_in_turn part =
    let windows : List ℕ = map (λ (e : Entry). e.slot) (entries_of part) in
    let turned : length (slots_in_turn part) ≡ length (windows ++ mark_slots part) + 1 =
    length-append (windows ++ mark_slots part) (part.slot ∷ []) in
    omega (arith, turned, length-append windows (mark_slots part), length-append (window_slots part) (mark_slots part))

-- they are as many as the records that the stream needs
pub length-slots_one : (part : StreamParts) (s : Stream) → Agrees part s → length (slots_held part) ≡ records_of s
length-slots_one part s agrees =
    omega (
      arith,
      length-slots_held part,
      length-Agrees part s agrees,
      agrees.known.slots,
      agrees.known.value_slots,
      ap length agrees.landmarks,
      ap (λ ls. length (all_values ls)) agrees.landmarks,
    )

-- the slots that are held are as many as the records that the streams need
pub length-slots : (parts : List StreamParts) (streams : List Stream) → AllAgree parts streams → length (flat_map slots_held parts) ≡ live streams
length-slots [] [] each = refl
length-slots [] (s ∷ ss) each = absurd each
length-slots (part ∷ parts) [] each = absurd each
length-slots (part ∷ parts) (s ∷ ss) each =
    omega (
      arith,
      length-slots parts ss each.1,
      length-flat_map slots_held (part ∷ parts),
      length-flat_map slots_held parts,
      sum_by-cons (λ (p : StreamParts). length (slots_held p)) part parts,
      sum_by-cons records_of s ss,
      length-slots_one part s each.0,
    )

-- each live slot is that of a record, which may be one of a dropped stream
pub live_count-beside : (doomed : List ℕ) (parts : List StreamParts) (slots : List Bool) → AreWholeBeside doomed parts slots →
    live_count slots ≡ length doomed + length (flat_map slots_held parts)
live_count-beside doomed parts slots whole =
    sym (length-live_slots slots) ∙ length_permutation (doomed ++ flat_map slots_held parts) (live_slots slots) whole.slots
    ∙ length-append doomed (flat_map slots_held parts)

-- or of a stream that stands
pub live_count-slots : (parts : List StreamParts) (slots : List Bool) → AreWhole parts slots → live_count slots ≡ length (flat_map slots_held parts)
live_count-slots parts slots whole =
    sym (length-live_slots slots) ∙ length_permutation (flat_map slots_held parts) (live_slots slots) whole.slots

pub live_count-AreWhole : (parts : List StreamParts) (streams : List Stream) (slots : List Bool) → AllAgree parts streams → AreWhole parts slots →
    live_count slots ≡ live streams
live_count-AreWhole parts streams slots each whole = live_count-slots parts slots whole ∙ length-slots parts streams each

-- no slot is free exactly where there are as many records as there can be
pub is_full-exactly : (parts : List StreamParts) (slots : List Bool) (o : Option ℕ) → AreWhole parts slots → live_count slots ≤ MOST_SLOTS →
    IsNone o ↔ (live_count slots ≡ MOST_SLOTS) → IsNone o ↔ IsTrue (nat_le MOST_RECORDS (length (flat_map slots_held parts)))
is_full-exactly parts slots o whole most exactly =
    let all = live_count-slots parts slots whole in (
      (λ none. let full = exactly.0 none in let more : MOST_RECORDS ≤ length (flat_map slots_held parts) = omega arith in grind (arith, nat_tests)),
      (λ full. let more : MOST_RECORDS ≤ length (flat_map slots_held parts) = grind (arith, nat_tests) in exactly.1 (omega arith)),
    )

-- the lowest free slot isn't above the number of records
pub low-slots : (parts : List StreamParts) (slots : List Bool) (o : Option ℕ) → AreWhole parts slots →
    IfSome o (λ slot. (slot < MOST_SLOTS) × (slot ≤ live_count slots)) → IfSome o (λ slot. slot ≤ length (flat_map slots_held parts))
low-slots parts slots None whole few = tt
low-slots parts slots (Some slot) whole few = omega (arith, few.1, live_count-slots parts slots whole)

-- a stream has no more records than all
pub few-slots : (parts : List StreamParts) (place : ℕ) (part : StreamParts) → slice_get parts place ≡ Some part →
    length (slots_held part) ≤ length (flat_map slots_held parts)
few-slots parts place part at =
    let inside = slice_get_within parts place part at in
    let one = length-flat_map-take slots_held parts place part inside in
    omega (arith, one, ap (λ (p : StreamParts). length (slots_held p)) (get_or_from_slice_get parts place part part at))

-- a stream has no more windows than there are slots
pub few-entries : (parts : List StreamParts) (place : ℕ) (part : StreamParts) → slice_get parts place ≡ Some part →
    nat_le MOST_RECORDS (length (flat_map slots_held parts)) ≡ false → length part.line.entries < MOST_SLOTS
few-entries parts place part at room =
    let less : length (flat_map slots_held parts) < MOST_RECORDS = grind (arith, nat_tests) in
    omega (arith, less, few-slots parts place part at, length-slots_held part)

-- nor more landmarks and values of these
pub few-marks : (parts : List StreamParts) (place : ℕ) (part : StreamParts) → slice_get parts place ≡ Some part →
    length (flat_map slots_held parts) ≤ MOST_RECORDS → length (mark_slots part) < MOST_SLOTS
few-marks parts place part at room =
    omega (
      arith,
      room,
      few-slots parts place part at,
      length-slots_held part,
      length-append part.landmarks.slots part.landmarks.value_slots,
    )
