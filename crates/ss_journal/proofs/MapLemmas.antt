-- The map of a file's slots, and maps that are the same.
use Rattle.ss_journal.proofs.Common.{List, ap, arith, drop, inl, inr, length, refl, sym, ℕ, ◌++◌, ◌+◌, ◌<◌, ◌∙◌, ◌≡◌, ◌≤◌, cases_lt, cond-false}
use Rattle.ss_journal.proofs.Common.{cond-true, le-ltb, lt-ltb, ext_get_or, get_or-drop, get_or-replicate, get_or-take, length-drop, length-replicate}
use Rattle.ss_journal.proofs.Common.{length-take, slice_index, slot_form, slot_in, kind_of, slot_at, slot_place, slots_in, extent_after, SameMap}
use Rattle.ss_journal.proofs.Common.{SlotMap, blank_map, changed, file_map, zeros, Put}
use Rattle.ss_journal.proofs.CheckLemmas.{slot_form-zeros}
use Rattle.ss_journal.proofs.HeaderLemmas.{piece-same}
use Rattle.ss_journal.proofs.PutLemmas.{extent_after-append, with_puts-append, with_puts-same}

pub SameMap-refl : (found : SlotMap) → SameMap found found
SameMap-refl found = record { bytes = λ slot lt. refl; extent = refl }

pub SameMap-trans : (a b c : SlotMap) → SameMap a b → SameMap b c → SameMap a c
SameMap-trans a b c first second = record {
  bytes = λ slot lt. first.bytes slot lt ∙ second.bytes slot lt;
  extent = first.extent ∙ second.extent;
}

pub SameMap-sym : (a b : SlotMap) → SameMap a b → SameMap b a
SameMap-sym a b same = record { bytes = λ slot lt. sym (same.bytes slot lt); extent = sym same.extent }

-- a slot of a file lies in it
pub slot_within : (size slot : ℕ) → slot < slots_in size → slot_place slot + 128 ≤ size
slot_within size slot lt = omega arith

-- a slot with the same bytes in a file of the same kind says the same
pub slot_in-same : (old new : List ℕ) (slot : ℕ) → kind_of new ≡ kind_of old → slot_at new slot ≡ slot_at old slot → slot_in new slot ≡ slot_in old slot
slot_in-same old new slot kind bytes = rw (kind, bytes)

-- a file of the same kind and length that is the same from the slots on has the same map
pub file_map-same : (old new : List ℕ) → kind_of new ≡ kind_of old → length new ≡ length old
    → ((place : ℕ) → 36864 ≤ place → slice_index new place ≡ slice_index old place)
    → SameMap (file_map new) (file_map old)
file_map-same old new kind long same = record {
  bytes = λ slot lt. elim (cases_lt slot (slots_in (length old))) [
    | inl within ↦
        cond-true _ _ _ (lt-ltb slot (slots_in (length new)) (rw long within))
        ∙ slot_in-same old new slot kind (piece-same old new (slot_place slot) 128 (slot_within (length old) slot within)
        (omega (arith, long, slot_within (length old) slot within)) (λ place low high. same place (omega (arith, low))))
        ∙ sym (cond-true _ _ _ (lt-ltb slot (slots_in (length old)) within))
    | inr past ↦
        cond-false _ _ _ (le-ltb slot (slots_in (length new)) (rw long past))
        ∙ sym (cond-false _ _ _ (le-ltb slot (slots_in (length old)) past))
  ];
  extent = ap slots_in long;
}

-- a blank file has zeros in each slot
pub file_map-blank : (image : List ℕ) → ((place : ℕ) → 9 ≤ place → place < 134254592 → slice_index image place ≡ 0)
    → SameMap (file_map image) (blank_map image)
file_map-blank image blank = record {
  bytes = λ slot lt. elim (cases_lt slot (slots_in (length image))) [
    | inl within ↦
        let inside = slot_within (length image) slot within in
        let piece : length (slot_at image slot) ≡ 128 = omega (
          arith,
          inside,
          length-take 128 (drop (slot_place slot) image),
          length-drop
              (slot_place slot) image,
        ) in
        cond-true _ _ _ (lt-ltb slot (slots_in (length image)) within)
        ∙ ap (slot_form (kind_of image) slot) (ext_get_or 0 (slot_at image slot) zeros (omega (arith, piece, length-replicate {A = ℕ} 128 0)) (λ k low.
        let few : k < 128 = omega (arith, low, piece) in
        get_or-take 128 (drop (slot_place slot) image) k 0 few ∙ get_or-drop (slot_place slot) image k 0
        ∙ blank (slot_place slot + k) (omega arith) (omega (arith, lt, few)) ∙ sym (get_or-replicate {A = ℕ} 128 k 0 0 few)))
        ∙ slot_form-zeros (kind_of image) slot
    | inr past ↦ cond-false _ _ _ (le-ltb slot (slots_in (length image)) past)
  ];
  extent = refl;
}

pub changed-same : (puts : List Put) (first second : SlotMap) → SameMap first second → SameMap (changed first puts) (changed second puts)
changed-same puts first second same = record {
  bytes = with_puts-same puts second.bytes first.bytes same.bytes;
  extent = ap (extent_after puts) same.extent;
}

pub changed-append : (found : SlotMap) (first second : List Put) → changed found (first ++ second) ≡ changed (changed found first) second
changed-append found first second =
    let bytes = with_puts-append first second found.bytes in
    let extent = extent_after-append first second found.extent in
    λ i. record { bytes = bytes i; extent = extent i }
