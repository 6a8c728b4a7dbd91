-- One window of a stream that is held: its entry, and its place in the line.
use Rattle.ss_store.proofs.Common.{◌≡◌, ℕ, zero, suc, ◌+◌, ◌<◌, ◌≤◌, Bool, List, [], ◌∷◌, ◌++◌, length, ap, sym, ◌∙◌, arith, Some, slice_get}
use Rattle.ss_store.proofs.Common.{option_map, ◌==◌, All, AllByRecursion, range_with_len, All-filter, All-from_recursion, All-get_or, recursion_from_All}
use Rattle.ss_store.proofs.Common.{find_at, All-permutation, IsPermutation-sym, get_or_from_slice_get, none-some, same_Some, slice_get-map, slice_get_within}
use Rattle.ss_store.proofs.Common.{MOST_SLOTS, entry_at, index_of, At, Entry, is_live, MOST_VALUES, AreWhole, TileFrom, entries_of, mark_slots, slots_held}
use Rattle.ss_store.proofs.Common.{window_slots, StreamParts, range-within, window_slots_of, slice_get-entry, part_numbered, AreSomeLive, live_slots}
use Rattle.ss_store.proofs.Among.{AreWhole-at}
use Rattle.ss_model.proofs.FoundLemmas.{each-front}

TileFrom-at : (first : ℕ) (es : List Entry) (i : ℕ) (e : Entry) → TileFrom first es → slice_get es i ≡ Some e → (e.first ≤ e.last) × (e.last ≤ MOST_VALUES)
TileFrom-at first [] i e tiles at = absurd (none-some e at)
TileFrom-at first (x ∷ xs) zero e tiles at =
    let same = same_Some x e at in
    rw (← same) (tiles.1, tiles.2)
TileFrom-at first (x ∷ xs) (suc i) e tiles at = TileFrom-at (x.last + 1) xs i e tiles.3 at

pub first_at : {X : Type 0} (xs ys : List X) (i : ℕ) (x : X) → slice_get xs i ≡ Some x → slice_get (xs ++ ys) i ≡ Some x
first_at [] ys i x at = absurd (none-some x at)
first_at (z ∷ zs) ys zero x at = at
first_at (z ∷ zs) ys (suc i) x at = first_at zs ys i x at

-- slots that are live are some that there are
slots-below : (slots : List ℕ) (live : List Bool) → AreSomeLive slots live → AllByRecursion (λ slot. slot < length live) slots
slots-below slots live some =
    let P : ℕ → Type 0 = λ s. s < length live in
    let all : All P (live_slots live) =
    All-filter (is_live live) P (range_with_len 0 (length live))
    (All-from_recursion P (range_with_len 0 (length live)) (range-within 0 (length live) (length live) (omega arith))) in
    let each : All P (slots ++ some.0) =
    All-permutation P (live_slots live) (slots ++ some.0) (IsPermutation-sym (slots ++ some.0) (live_slots live) some.1) all in
    each-front P slots some.0 (recursion_from_All P (slots ++ some.0) each)

-- those of the windows of a stream, in a store that is whole
pub window_slots-below : (parts : List StreamParts) (live : List Bool) (place : ℕ) (part : StreamParts) → AreWhole parts live →
    length live ≡ MOST_SLOTS → slice_get parts place ≡ Some part → All (λ slot. slot < MOST_SLOTS) (window_slots_of part)
window_slots-below parts live place part whole all here =
    let P : ℕ → Type 0 = λ slot. slot < length live in
    let below = each-front P (window_slots part) (mark_slots part) (slots-below (slots_held part) live (AreWhole-at parts live place part whole here).1) in
    rw all at (All-from_recursion P (window_slots_of part) below.1)

-- what is known of the entry of a window, in a store that is whole
pub record IsEntry (e : Entry) : Type 0 where
  pub some : e.first ≤ e.last
  pub most : e.last ≤ MOST_VALUES
  pub slot : e.slot < MOST_SLOTS

pub IsEntry-at : (parts : List StreamParts) (live : List Bool) (place : ℕ) (part : StreamParts) (at : At) (e : Entry) → AreWhole parts live →
    length live ≡ MOST_SLOTS → slice_get parts place ≡ Some part → entry_at part.line.entries at ≡ Some e → IsEntry e
IsEntry-at parts live place part at e whole all here is =
    let both = AreWhole-at parts live place part whole here in
    let i = index_of part.line.entries at in
    let read = slice_get-entry part.line.entries at e is in
    let tile = TileFrom-at 1 (entries_of part) i e both.0.tiles read in
    let slot : slice_get (window_slots_of part) i ≡ Some e.slot =
    slice_get-map (λ (x : Entry). x.slot) (entries_of part) i ∙ ap (option_map (λ (x : Entry). x.slot)) read in
    record {
      some = tile.0;
      most = tile.1;
      slot = rw (get_or_from_slice_get (window_slots_of part) i e.slot e.slot slot) at
          (All-get_or (λ s. s < MOST_SLOTS) (window_slots_of part) i e.slot (slice_get_within (window_slots_of part) i e.slot slot)
          (window_slots-below parts live place part whole all here));
    }

-- the same of a stream by its number
pub IsEntry-numbered : (parts : List StreamParts) (live : List Bool) (number : ℕ) (part : StreamParts) (at : At) (e : Entry) → AreWhole parts live →
    length live ≡ MOST_SLOTS → part_numbered number parts ≡ Some part → entry_at part.line.entries at ≡ Some e → IsEntry e
IsEntry-numbered parts live number part at e whole all here is =
    IsEntry-at parts live _ part at e whole all (sym (find_at (λ (p : StreamParts). number == p.id.0) parts) ∙ here) is
