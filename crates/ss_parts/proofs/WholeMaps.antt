-- Maps of images: each slot has its 128 bytes, and maps that are the same have the same records.
use Rattle.std.proofs.Common.{◌≡◌, ◌∙◌, sym, ap, subst, refl, ℕ, zero, suc, ◌+◌, ◌<◌, ◌≤◌, ◌^◌, arith, not, cond, inl, inr}
use Rattle.std.proofs.Common.{List, [], ◌∷◌, length, map, filter, drop, Option}
use Rattle.std.proofs.lemmas.Bool.{cases_Bool, cases_lt, cond-false, cond-true, cond_both, le-ltb, lt-ltb}
use Rattle.std.proofs.lemmas.List.{length-drop, length-replicate, length-take}
use Rattle.std.proofs.lemmas.List.Elements.{All-head, All-tail}
use Rattle.std.specs.List.{AllByRecursion, range_with_len}
use Rattle.ss_journal.proofs.CheckLemmas.{length-slot_form}
use Rattle.ss_journal.proofs.MapLemmas.{slot_within}
use Rattle.ss_journal.proofs.PutLemmas.{extent_after-bound}
use Rattle.ss_journal.proofs.RedoLemmas.{redo-born, redo-neither, redo-unborn, StandsFor-parts}
use Rattle.ss_journal.specs.Format.{is_born, is_unborn, kind_of, slot_at, slot_place, slots_in}
use Rattle.ss_journal.specs.Puts.{FillSlots, with_put, with_puts}
use Rattle.ss_journal.specs.Redo.{blank_map, file_map, not_a_store, puts_in_use, redo, SameMap, SlotMap, stands, StandsFor, zeros}
use Rattle.ss_journal.specs.declared.format.TheConstants.{MOST_SLOTS}
use Rattle.ss_journal.specs.declared.put.Put.{Put}
use Rattle.ss_records.specs.Live.{are_zeros}
use Rattle.ss_codec.specs.Decoded.{decoded}
use Rattle.ss_codec.specs.declared.record.Record.{Record}
use Rattle.ss_parts.specs.Held.{HasWholeSlots, occupied}

-- the slots of a list that aren't zeros, each with what it spells
abbrev pub filled : (ℕ → List ℕ) → List ℕ → List (ℕ × Option Record)
filled bytes slots = map (λ slot. (slot, decoded (bytes slot))) (filter (λ slot. not (are_zeros (bytes slot))) slots)

filled-cons : (bytes : ℕ → List ℕ) (slot : ℕ) (slots : List ℕ) → filled bytes (slot ∷ slots)
    ≡ cond (not (are_zeros (bytes slot))) ((slot, decoded (bytes slot)) ∷ filled bytes slots) (filled bytes slots)
filled-cons bytes slot slots = elim (cases_Bool (are_zeros (bytes slot))) [ inl zeros ↦ rw zeros refl | inr live ↦ rw live refl ]

-- maps that have the same bytes in each slot of a list
pub filled-same : (first second : ℕ → List ℕ) (slots : List ℕ) → AllByRecursion (λ slot. first slot ≡ second slot) slots →
    filled first slots ≡ filled second slots
filled-same first second [] same = refl
filled-same first second (slot ∷ slots) same =
    filled-cons first slot slots ∙ ap (λ b. cond (not (are_zeros b)) ((slot, decoded b) ∷ filled first slots) (filled first slots)) same.0
    ∙ ap (λ l. cond (not (are_zeros (second slot))) ((slot, decoded (second slot)) ∷ l) l) (filled-same first second slots same.1)
    ∙ sym (filled-cons second slot slots)

length-zeros : length zeros ≡ 128
length-zeros = length-replicate {A = ℕ} 128 0

length-slot_at : (image : List ℕ) (slot : ℕ) → slot < slots_in (length image) → length (slot_at image slot) ≡ 128
length-slot_at image slot below =
    let inside = slot_within (length image) slot below in
    omega (arith, inside, length-take 128 (drop (slot_place slot) image), length-drop (slot_place slot) image)

length-file_map : (image : List ℕ) (slot : ℕ) → length ((file_map image).bytes slot) ≡ 128
length-file_map image slot = elim (cases_lt slot (slots_in (length image))) [
  | inl below ↦ ap length (cond-true _ _ _ (lt-ltb slot (slots_in (length image)) below))
      ∙ length-slot_form (kind_of image) slot (slot_at image slot) ∙ length-slot_at image slot below
  | inr past ↦ ap length (cond-false _ _ _ (le-ltb slot (slots_in (length image)) past)) ∙ length-zeros
]

length-with_put : (put : Put) (bytes : ℕ → List ℕ) → length put.bytes ≡ 128 → ((slot : ℕ) → length (bytes slot) ≡ 128) → (slot : ℕ) →
    length (with_put put bytes slot) ≡ 128
length-with_put put bytes whole each slot = cond_both _ put.bytes (bytes slot) (λ b. length b ≡ 128) (λ here. whole) (λ other. each slot)

length-with_puts : (puts : List Put) (bytes : ℕ → List ℕ) → FillSlots puts → ((slot : ℕ) → length (bytes slot) ≡ 128) → (slot : ℕ) →
    length (with_puts puts bytes slot) ≡ 128
length-with_puts [] bytes whole each slot = each slot
length-with_puts (put ∷ puts) bytes whole each slot =
    let P = λ (p : Put). length p.bytes ≡ 128 in
    length-with_puts puts (with_put put bytes) (All-tail P put puts whole) (length-with_put put bytes (All-head P put puts whole) each) slot

-- a map of whole slots
record AreAllWhole (its : SlotMap) : Type 0 where
  few : its.extent ≤ 2 ^ 20
  whole : (slot : ℕ) → length (its.bytes slot) ≡ 128

AreAllWhole-redo : (image : List ℕ) (its : SlotMap) → redo image ≡ stands its → AreAllWhole its
AreAllWhole-redo image its is = elim (cases_Bool (is_born image)) [
  | inl born ↦
      let parts = redo-born image its born is in
      let puts = puts_in_use image in
      let inside : slots_in (length image) ≤ 2 ^ 20 = omega arith in
      subst AreAllWhole (sym parts.0) (record {
        few = extent_after-bound puts (slots_in (length image)) (2 ^ 20) parts.2 inside;
        whole = length-with_puts puts (file_map image).bytes parts.3 (length-file_map image);
      })
  | inr other ↦
      elim (cases_Bool (is_unborn image)) [
        | inl unborn ↦
            let same : stands (blank_map image) ≡ stands its = sym (redo-unborn image unborn) ∙ is in
            let blank : blank_map image ≡ its = cc in
            let inside : slots_in (length image) ≤ 2 ^ 20 = omega arith in
            subst AreAllWhole blank (record { few = inside; whole = λ slot. length-zeros })
        | inr neither ↦ let same : not_a_store ≡ stands its = sym (redo-neither image other neither) ∙ is in absurd (cc)
      ]
]

pub HasWholeSlots-StandsFor : (image : List ℕ) (found : SlotMap) → StandsFor image found → HasWholeSlots found
HasWholeSlots-StandsFor image found is =
    let parts = StandsFor-parts image found is in
    let whole = AreAllWhole-redo image parts.0 parts.1 in
    record {
      few = omega (arith, whole.few, parts.2.extent);
      whole = λ slot below. sym (ap length (parts.2.bytes slot below)) ∙ whole.whole slot;
    }

-- maps that are the same
same-from : (first second : ℕ → List ℕ) (a n : ℕ) → ((slot : ℕ) → slot < a + n → first slot ≡ second slot) →
    AllByRecursion (λ slot. first slot ≡ second slot) (range_with_len a n)
same-from first second a zero same = tt
same-from first second a (suc n) same = (same a (omega arith), same-from first second (a + 1) n (λ slot below. same slot (omega arith)))

pub same-slots : (first second : SlotMap) → first.extent ≤ MOST_SLOTS → SameMap first second →
    AllByRecursion (λ slot. first.bytes slot ≡ second.bytes slot) (range_with_len 0 first.extent)
same-slots first second few same = same-from first.bytes second.bytes 0 first.extent (λ slot below. same.bytes slot (omega arith))

pub occupied-same : (first second : SlotMap) → first.extent ≤ MOST_SLOTS → SameMap first second → occupied first ≡ occupied second
occupied-same first second few same =
    filled-same first.bytes second.bytes (range_with_len 0 first.extent) (same-slots first second few same)
    ∙ ap (λ n. occupied (record { bytes = second.bytes; extent = n })) same.extent
