-- Maps of images: each slot has its 128 bytes, and maps that are the same carry the same.
use Rattle.ss_recover.proofs.Common.{[], ◌<◌, ◌==◌, ◌^◌, ◌||◌, ◌∙◌, ◌∷◌, ◌≡◌, ◌≤◌, AllByRecursion, ap, are_zeros, arith, Bool}
use Rattle.ss_recover.proofs.Common.{cases_Bool, cond-false, cons_option, decoded-spelling, false}
use Rattle.ss_recover.proofs.Common.{filter_map, Free, HasValidTimes, HasWholeSlots, inl, inr, is_none, is_valid-free, IsLandmark-is_valid, IsPossible}
use Rattle.ss_recover.proofs.Common.{IsStream-is_valid, IsTrue, IsUsable, IsValue-is_valid, IsWindow-is_valid, LAST_TIME, length}
use Rattle.ss_recover.proofs.Common.{length-map-range_with_len, List, list_any, map, MatchOption, MOST_SLOTS, None}
use Rattle.ss_recover.proofs.Common.{Option, range_with_len, Record, records_beside, records_in}
use Rattle.ss_recover.proofs.Common.{refl, replicate, replicate-are_zeros, SameMap, SlotMap, Some, spelling-free}
use Rattle.ss_recover.proofs.Common.{Spells-decoded, sym, true, Value, window_of, zeros, ℕ}
use Rattle.ss_codec.specs.Decoded.{decoded}
use Rattle.ss_parts.proofs.WholeMaps.{filled, same-slots}
use Rattle.ss_recover.specs.Carried.{spelled}
use Rattle.ss_recover.specs.Parts.{carried}
use Rattle.ss_codec.specs.declared.record.Record.TheVariants.{Landmark, Stream, Window}
use Rattle.ss_codec.specs.Record.{is_valid}
use Rattle.ss_parts.proofs.Lists.{all_weaker, any-made, kept, range-within}
use Rattle.ss_parts.proofs.PutLemmas.{filled-live, filled-zeros}

-- a whole slot of zeros is free
abbrev pub ZerosAreFree : (ℕ → List ℕ) → ℕ → Type 0
ZerosAreFree bytes slot = are_zeros (bytes slot) ≡ true → decoded (bytes slot) ≡ Some Free

pub decoded-free : (bytes : List ℕ) → length bytes ≡ 128 → are_zeros bytes ≡ true → decoded bytes ≡ Some Free
decoded-free bytes whole zeros =
    ap decoded (replicate-are_zeros bytes zeros ∙ ap (λ n. replicate n 0) whole ∙ sym spelling-free) ∙ decoded-spelling Free is_valid-free

pub zeros_are_free : (found : SlotMap) → HasWholeSlots found → AllByRecursion (ZerosAreFree found.bytes) (range_with_len 0 found.extent)
zeros_are_free found whole =
    all_weaker _ _ (λ slot below zeros. let few = whole.few in decoded-free (found.bytes slot) (whole.whole slot (omega arith)) zeros)
    (range_with_len 0 found.extent) (range-within 0 found.extent found.extent (omega arith))

-- free slots give nothing to what is made of records
module _ {Y : Type 0} (f : Record → Option Y) (free : f Free ≡ None) (bytes : ℕ → List ℕ) where
  pub filter_map-filled : (slots : List ℕ) → AllByRecursion (ZerosAreFree bytes) slots →
      filter_map f (records_in (map (λ slot. decoded (bytes slot)) slots)) ≡ filter_map f (records_in (map (λ e. e.1) (filled bytes slots)))
  filter_map-filled [] each = refl
  filter_map-filled (slot ∷ slots) each =
      let rest = filter_map-filled slots each.1 in
      elim (cases_Bool (are_zeros (bytes slot))) [
        | inl zeros ↦ rw (filled-zeros bytes slot slots zeros, each.0 zeros, free) rest
        | inr live ↦
            rw (filled-live bytes slot slots live)
            (elim (decoded (bytes slot)) as (λ o. filter_map f (cons_option o (records_in (map (λ slot. decoded (bytes slot)) slots)))
            ≡ filter_map f (cons_option o (records_in (map (λ e. e.1) (filled bytes slots))))) [
              | None ↦ rest
              | Some r ↦ ap (cons_option (f r)) rest
            ])
      ]

-- nor to whether a slot spells nothing
pub list_any-filled : (bytes : ℕ → List ℕ) (slots : List ℕ) → AllByRecursion (ZerosAreFree bytes) slots →
    list_any is_none (map (λ slot. decoded (bytes slot)) slots) ≡ list_any is_none (map (λ e. e.1) (filled bytes slots))
list_any-filled bytes [] each = refl
list_any-filled bytes (slot ∷ slots) each =
    let rest = list_any-filled bytes slots each.1 in
    elim (cases_Bool (are_zeros (bytes slot))) [
      | inl zeros ↦ rw (filled-zeros bytes slot slots zeros, each.0 zeros) rest
      | inr live ↦ rw (filled-live bytes slot slots live) (ap (λ b. is_none (decoded (bytes slot)) || b) rest)
    ]

-- what is in slots, without them
pub beside-seconds : (es : List (ℕ × Option Record)) → records_beside es ≡ records_in (map (λ (e : ℕ × Option Record). e.1) es)
beside-seconds [] = refl
beside-seconds (e ∷ es) = ap (cons_option e.1) (beside-seconds es)

-- nor to whether some record passes a test
pub any-filled : (test : Record → Bool) → test Free ≡ false → (bytes : ℕ → List ℕ) (slots : List ℕ) → AllByRecursion (ZerosAreFree bytes) slots →
    list_any test (records_beside (filled bytes slots)) ≡ list_any test (records_in (map (λ slot. decoded (bytes slot)) slots))
any-filled test free bytes slots each =
    ap (list_any test) (beside-seconds (filled bytes slots))
    ∙ sym (any-made test (records_in (map (λ slot. decoded (bytes slot)) slots)) (records_in (map (λ e. e.1) (filled bytes slots)))
    (filter_map-filled (kept test) (cond-false _ _ _ free) bytes slots each))

pub spells-same : (first second : ℕ → List ℕ) (slots : List ℕ) → AllByRecursion (λ slot. first slot ≡ second slot) slots →
    map (λ slot. decoded (first slot)) slots ≡ map (λ slot. decoded (second slot)) slots
spells-same first second [] same = refl
spells-same first second (slot ∷ slots) same =
    let here = ap decoded same.0 in
    let rest = spells-same first second slots same.1 in
    λ i. here i ∷ rest i

pub spelled-same : (first second : SlotMap) → first.extent ≤ MOST_SLOTS → SameMap first second → spelled first ≡ spelled second
unfolding spelled
spelled-same first second few same =
    spells-same first.bytes second.bytes (range_with_len 0 first.extent) (same-slots first second few same)
    ∙ ap (λ n. map (λ slot. decoded (second.bytes slot)) (range_with_len 0 n)) same.extent

pub carried-same : (first second : SlotMap) → first.extent ≤ MOST_SLOTS → SameMap first second → carried first ≡ carried second
unfolding carried
carried-same first second few same = rw (spelled-same first second few same) refl

-- ---- what valid records have, and what is made of the records of a map: streams of different numbers need no more of them than there are

HasValidTimes-interval : (values start : ℕ) (finish : Option ℕ) →
    MatchOption finish ((values ≡ 0) × (start ≤ LAST_TIME)) (λ f. (values < 2 ^ 32) × (start ≤ f) × (f ≤ LAST_TIME)) →
    HasValidTimes values start finish
HasValidTimes-interval values start None is = (is.0, is.1)
HasValidTimes-interval values start (Some f) is = (is.1, is.2)

pub IsUsable-valid : (r : Record) → IsTrue (is_valid r) → (r ≡ Free → ⊥) → IsUsable r
IsUsable-valid Free valid other = absurd (other refl)
IsUsable-valid (Stream id name params dropped) valid other = let is = IsStream-is_valid id name params dropped valid in (is.ranged, omega (arith, is.number))
IsUsable-valid (Window id first summary) valid other =
    let is = IsWindow-is_valid id first summary valid in
    let possible = is.possible in
    (is.low, omega (arith, is.low, is.high, possible.count_low), possible)
IsUsable-valid (Landmark id number values start finish) valid other =
    let is = IsLandmark-is_valid id number values start finish valid in
    (is.low, is.high, HasValidTimes-interval values start finish is.interval)
IsUsable-valid (Value id number index t v) valid other =
    let is = IsValue-is_valid id number index t v valid in
    (is.low, is.high, is.index_high, is.early, is.fits)

-- what a slot spells is usable, unless it is free
abbrev pub IsFine : Record → Type 0
IsFine r = (r ≡ Free → ⊥) → IsUsable r

valid-option : (o : Option Record) (bytes : List ℕ) → decoded bytes ≡ o → (rest : List Record) → AllByRecursion IsFine rest →
    AllByRecursion IsFine (cons_option o rest)
valid-option None bytes is rest valid = valid
valid-option (Some r) bytes is rest valid = (IsUsable-valid r (Spells-decoded bytes r is).valid, valid)

valid-decoded : (bytes : ℕ → List ℕ) (slots : List ℕ) → AllByRecursion IsFine (records_in (map (λ slot. decoded (bytes slot)) slots))
valid-decoded bytes [] = tt
valid-decoded bytes (slot ∷ slots) =
    valid-option (decoded (bytes slot)) (bytes slot) refl (records_in (map (λ s. decoded (bytes s)) slots)) (valid-decoded bytes slots)

pub valid-records : (found : SlotMap) → AllByRecursion IsFine (records_in (spelled found))
unfolding spelled
valid-records found = valid-decoded found.bytes (range_with_len 0 found.extent)

-- there are no more of them than slots
few-records_in : (os : List (Option Record)) → length (records_in os) ≤ length os
few-records_in [] = omega arith
few-records_in (None ∷ os) = omega (arith, few-records_in os)
few-records_in (Some r ∷ os) = omega (arith, few-records_in os)

pub few-records : (found : SlotMap) → length (records_in (spelled found)) ≤ found.extent
unfolding spelled
few-records found =
    omega (
      arith,
      few-records_in (map (λ slot. decoded (found.bytes slot)) (range_with_len 0 found.extent)),
      length-map-range_with_len (λ slot. decoded (found.bytes slot)) 0 found.extent,
    )

-- the windows of a number
pub all-window_of : (number : ℕ) (rs : List Record) → AllByRecursion IsFine rs →
    AllByRecursion (λ w. IsPossible w.summary) (filter_map (window_of number) rs)
all-window_of number [] valid = tt
all-window_of number (Window id first f ∷ rs) valid =
    let rest = all-window_of number rs valid.1 in
    elim (cases_Bool (id == number)) [
      | inl same ↦ rw same ((valid.0 (λ free. cc)).2, rest)
      | inr other ↦ rw other rest
    ]
all-window_of number (_ ∷ rs) valid = all-window_of number rs valid.1
