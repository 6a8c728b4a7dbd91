-- Puts that are written into their slots, and slots that a crash tears.
use Rattle.ss_journal.proofs.Common.{IsFalse, IsTrue, List, [], ap, arith, drop, inl, inr, length, max, nat_eq, subst, sym, take, ℕ, ◌++◌, ◌+◌, ◌<◌, ◌^◌, ◌∙◌}
use Rattle.ss_journal.proofs.Common.{◌∷◌, ◌≡◌, ◌≤◌, cases_eq, cases_lt, cases_order, cond-false, cond-true, eq-eqb, eqb-false, le-ltb, lt-ltb, ne_eqb}
use Rattle.ss_journal.proofs.Common.{or_parts, All-head, All-tail, append_assoc, drop_at, length-take-le, take_at, get_or-overwrite_outside, length-overwrite}
use Rattle.ss_journal.proofs.Common.{IsOutsideAll, overwrite, slot_form, slot_in, Kind, kind_of, slot_at, slot_place, slots_in, AgreeBeside, FillSlots}
use Rattle.ss_journal.proofs.Common.{extent_after, is_put, slots_fit, SameMap, changed, file_map, AreSlots, DiffersAt, DiffersIn, length_with, slot_ranges}
use Rattle.ss_journal.proofs.Common.{slots_written, Put}
use Rattle.ss_journal.proofs.CheckLemmas.{length-slot_form, slot_form-twice}
use Rattle.ss_journal.proofs.HeaderLemmas.{kind_of-same, piece-same}
use Rattle.ss_journal.proofs.MapLemmas.{SameMap-refl, SameMap-trans, changed-same, slot_in-same, slot_within}
use Rattle.ss_journal.proofs.PutLemmas.{below_extent, le-extent_after, lt-next, next, next-le, slots_fit-cases}
use Rattle.ss_journal.proofs.RangeLemmas.{DiffersIn-append, DiffersIn-overwrite, DiffersIn-refl}

-- the header lies outside each slot
pub outside_slots : (puts : List Put) (place : ℕ) → place < 36864 → IsOutsideAll (slot_ranges puts) place
outside_slots [] place lt = tt
outside_slots (put ∷ puts) place lt = (inl (omega (arith, lt)), outside_slots puts place lt)

-- and so does a slot without a put
outside_slot : (puts : List Put) (slot place : ℕ) → IsFalse (is_put puts slot) → slot_place slot ≤ place → place < slot_place slot + 128
    → IsOutsideAll (slot_ranges puts) place
outside_slot [] slot place beside low high = tt
outside_slot (put ∷ puts) slot place beside low high =
    let parts = or_parts (nat_eq slot put.slot) (is_put puts slot) beside in (
      elim (cases_order slot put.slot) [
        | inl same ↦ absurd (eqb-false slot put.slot parts.0 same)
        | inr apart ↦ elim apart [ inl below ↦ inl (omega (arith, below, high)) | inr above ↦ inr (omega (arith, above, low)) ]
      ],
      outside_slot puts slot place parts.1 low high,
    )

-- one more slot is reached only by a put into the next
slots_in-max : (slot size end extent : ℕ) → slots_in end ≤ extent → slot < extent → slots_in (max end (slot_place slot + 128)) ≤ extent
slots_in-max slot size end extent most lt = omega arith

-- a file with some of the puts has no more slots than the extent after them
slots_in-length_with : (puts : List Put) (size extent : ℕ) → IsTrue (slots_fit puts extent) → slots_in size ≤ extent
    → slots_in (length_with (slot_ranges puts) size) ≤ extent_after puts extent
slots_in-length_with [] size extent fit le = le
slots_in-length_with (put ∷ puts) size extent fit le =
    let cases = slots_fit-cases put puts extent fit in
    let rest = slots_in-length_with puts size (next put.slot extent) cases.1 (omega (arith, le, next-le put.slot extent)) in
    slots_in-max put.slot size (length_with (slot_ranges puts) size) (extent_after puts (next put.slot extent)) rest
    (omega (arith, lt-next put.slot extent cases.0, le-extent_after puts (next put.slot extent)))

pub slots_in-mono : (old new : ℕ) → old ≤ new → slots_in old ≤ slots_in new
slots_in-mono old new le = omega arith

module _ (puts : List Put) (content image : List ℕ) (fit : IsTrue (slots_fit puts (slots_in (length content))))
    (differs : DiffersIn (slot_ranges puts) content image) where
  pub slots_in-torn : slots_in (length image) ≤ extent_after puts (slots_in (length content))
  slots_in-torn =
      let most = slots_in-length_with puts (length content) (slots_in (length content)) fit (omega arith) in
      let mono = slots_in-mono (length image) (length_with (slot_ranges puts) (length content)) differs.no_longer in
      omega (arith, most, mono)

  -- the files agree on each slot without a put
  pub AgreeBeside-torn : AgreeBeside puts (file_map content).bytes (file_map image).bytes
  AgreeBeside-torn slot beside = elim (cases_lt slot (slots_in (length content))) [
    | inl within ↦
        let inside = slot_within (length content) slot within in
        let mono = slots_in-mono (length content) (length image) differs.no_shorter in
        cond-true _ _ _ (lt-ltb slot (slots_in (length image)) (omega (arith, within, mono)))
        ∙ slot_in-same content image slot
        (kind_of-same content image (omega (arith, inside)) (omega (arith, inside, differs.no_shorter))
        (λ place low high. differs.kept place (omega (arith, high, inside)) (outside_slots puts place (omega (arith, high)))))
        (piece-same content image (slot_place slot) 128 inside (omega (arith, inside, differs.no_shorter))
        (λ place low high. differs.kept place (omega (arith, high, inside)) (outside_slot puts slot place beside low high)))
        ∙ sym (cond-true _ _ _ (lt-ltb slot (slots_in (length content)) within))
    | inr past ↦ elim (cases_lt slot (slots_in (length image))) [
      | inl below ↦ let lt = below_extent puts (slots_in (length content)) slot (omega (arith, below, slots_in-torn)) beside in absurd (omega (arith, lt, past))
      | inr from ↦ cond-false _ _ _ (le-ltb slot (slots_in (length image)) from) ∙ sym (cond-false _ _ _ (le-ltb slot (slots_in (length content)) past))
    ]
  ]

-- one put is written
slots_in-put : (size slot : ℕ) → 36864 ≤ size → slot ≤ slots_in size → slot < 2 ^ 20
    → slots_in (max size (slot_place slot + 128)) ≡ next slot (slots_in size)
slots_in-put size slot long fits lt = elim (cases_eq slot (slots_in size)) [
  | inl same ↦ let more : next slot (slots_in size) ≡ slots_in size + 1 = cond-true _ _ _ (eq-eqb slot (slots_in size) same) in
      omega (arith, more, same, lt, long)
  | inr other ↦ let none : next slot (slots_in size) ≡ slots_in size = cond-false _ _ _ (ne_eqb slot (slots_in size) other) in
      omega (arith, none, other, fits, long)
]

-- a slot past the file is past it with another slot written
slots_in-other : (size slot other : ℕ) → 36864 ≤ size → slot ≤ slots_in size → slots_in size ≤ other → (other ≡ slot → ⊥)
    → slots_in (max size (slot_place slot + 128)) ≤ other
slots_in-other size slot other long fits past apart = omega (arith, apart)

module _ (kind : Kind) (put : Put) (content : List ℕ) (long : 36864 ≤ length content) (fits : put.slot ≤ slots_in (length content)) (below : put.slot < 2 ^ 20)
    (whole : length put.bytes ≡ 128) where
  -- its bytes in the form of a kind
  abbrev bytes : List ℕ
  bytes = slot_form kind put.slot put.bytes

  abbrev written : List ℕ
  written = overwrite content (slot_place put.slot) bytes

  size : length bytes ≡ 128
  size = length-slot_form kind put.slot put.bytes ∙ whole

  place_within : slot_place put.slot ≤ length content
  place_within = omega (arith, long, fits)

  pub length-written : length written ≡ max (length content) (slot_place put.slot + 128)
  length-written = rw (length-overwrite content bytes (slot_place put.slot) place_within, size)

  pub slots-written : slots_in (length written) ≡ next put.slot (slots_in (length content))
  slots-written = ap slots_in length-written ∙ slots_in-put (length content) put.slot long fits below

  slot_at-written : slot_at written put.slot ≡ bytes
  slot_at-written =
      let front : length (take (slot_place put.slot) content) ≡ slot_place put.slot = length-take-le (slot_place put.slot) content place_within in
      ap (λ (list : List ℕ). take 128 (drop (slot_place put.slot) list))
      (append_assoc (take (slot_place put.slot) content) bytes (drop (slot_place put.slot + length bytes) content))
      ∙ ap (take 128) (drop_at (take (slot_place put.slot) content) (bytes ++ drop (slot_place put.slot + length bytes) content) (slot_place put.slot)
      front)
      ∙ take_at bytes (drop (slot_place put.slot + length bytes) content) 128 size

  -- the kind stays
  pub kind-written : kind_of written ≡ kind_of content
  kind-written = kind_of-same content written (omega (arith, long)) (omega (arith, long, length-written))
      (λ place low high. get_or-overwrite_outside content bytes (slot_place put.slot) place_within place (inl (omega (arith, high))))

  others-written : (slot : ℕ) → (slot ≡ put.slot → ⊥) → (file_map written).bytes slot ≡ (file_map content).bytes slot
  others-written slot apart = elim (cases_lt slot (slots_in (length content))) [
    | inl within ↦
        let inside = slot_within (length content) slot within in
        let longer : length content ≤ length written = omega (arith, length-written) in
        cond-true _ _ _ (lt-ltb slot (slots_in (length written)) (omega (arith, within, slots_in-mono (length content) (length written) longer)))
        ∙ slot_in-same content written slot kind-written (piece-same content written (slot_place slot) 128 inside (omega (arith, inside, longer))
        (λ place low high. get_or-overwrite_outside content bytes (slot_place put.slot) place_within place (elim (cases_order slot put.slot) [
          | inl same ↦ absurd (apart same)
          | inr sides ↦ elim sides [ inl lower ↦ inl (omega (arith, lower, high)) | inr higher ↦ inr (omega (arith, higher, low, size)) ]
        ])))
        ∙ sym (cond-true _ _ _ (lt-ltb slot (slots_in (length content)) within))
    | inr past ↦
        let also = slots_in-other (length content) put.slot slot long fits past apart in
        cond-false _ _ _ (le-ltb slot (slots_in (length written)) (rw length-written also))
        ∙ sym (cond-false _ _ _ (le-ltb slot (slots_in (length content)) past))
  ]

  -- of the file's kind it says them
  pub file_map-put : kind ≡ kind_of content → SameMap (file_map written) (changed (file_map content) (put ∷ []))
  file_map-put same_kind = record {
    bytes = λ slot lt. elim (cases_eq slot put.slot) [
      | inl same ↦
          let within : put.slot < slots_in (length written) = omega (arith, slots-written, lt-next put.slot (slots_in (length content)) fits) in
          let says : slot_in written put.slot ≡ put.bytes =
          rw (kind-written, ← same_kind, slot_at-written, slot_form-twice) in
          let there : (file_map written).bytes put.slot ≡ put.bytes = cond-true _ _ _ (lt-ltb put.slot (slots_in (length written)) within) ∙ says in
          ap (file_map written).bytes same ∙ there ∙ sym (cond-true _ _ _ (eq-eqb slot put.slot same))
      | inr apart ↦ others-written slot apart ∙ sym (cond-false _ _ _ (ne_eqb slot put.slot apart))
    ];
    extent = slots-written;
  }

-- the puts that are written in order give the map after them
pub file_map-slots_written : (kind : Kind) (puts : List Put) (content : List ℕ) → kind ≡ kind_of content → 36864 ≤ length content
    → IsTrue (slots_fit puts (slots_in (length content)))
    → AreSlots puts → FillSlots puts → SameMap (file_map (slots_written kind puts content)) (changed (file_map content) puts)
file_map-slots_written kind [] content is long fit slots whole = SameMap-refl (file_map content)
file_map-slots_written kind (put ∷ puts) content is long fit slots whole =
    let cases = slots_fit-cases put puts (slots_in (length content)) fit in
    let below = All-head (λ (p : Put). p.slot < 2 ^ 20) put puts slots in
    let full = All-head (λ (p : Put). length p.bytes ≡ 128) put puts whole in
    let grown = length-written kind put content long cases.0 below full in
    let first = file_map-put kind put content long cases.0 below full is in
    let rest = file_map-slots_written kind puts (overwrite content (slot_place put.slot) (slot_form kind put.slot put.bytes))
    (is ∙ sym (kind-written kind put content long cases.0 below full)) (omega (arith, grown, long)) (rw first.extent cases.1)
    (All-tail (λ (p : Put). p.slot < 2 ^ 20) put puts slots) (All-tail (λ (p : Put). length p.bytes ≡ 128) put puts whole) in
    SameMap-trans _ _ _ rest (changed-same puts _ _ first)

-- the puts that are written are one way to tear their slots
pub DiffersIn-slots_written : (kind : Kind) (puts : List Put) (content : List ℕ) → 36864 ≤ length content → IsTrue (slots_fit puts (slots_in (length content)))
    → AreSlots puts → FillSlots puts → DiffersIn (slot_ranges puts) content (slots_written kind puts content)
DiffersIn-slots_written kind [] content long fit slots whole = DiffersIn-refl [] content
DiffersIn-slots_written kind (put ∷ puts) content long fit slots whole =
    let cases = slots_fit-cases put puts (slots_in (length content)) fit in
    let below = All-head (λ (p : Put). p.slot < 2 ^ 20) put puts slots in
    let full = All-head (λ (p : Put). length p.bytes ≡ 128) put puts whole in
    let grown = length-written kind put content long cases.0 below full in
    let bytes = slot_form kind put.slot put.bytes in
    let next = overwrite content (slot_place put.slot) bytes in
    let first = subst (λ (n : ℕ). DiffersAt (slot_place put.slot) n content next) (length-slot_form kind put.slot put.bytes ∙ full)
    (DiffersIn-overwrite (slot_place put.slot) content bytes (omega (arith, long, cases.0))) in
    let rest = DiffersIn-slots_written kind puts next (omega (arith, grown, long))
    (subst (λ (n : ℕ). IsTrue (slots_fit puts n)) (sym (slots-written kind put content long cases.0 below full)) cases.1)
    (All-tail (λ (p : Put). p.slot < 2 ^ 20) put puts slots) (All-tail (λ (p : Put). length p.bytes ≡ 128) put puts whole) in
    DiffersIn-append ((slot_place put.slot, 128) ∷ []) (slot_ranges puts) content next (slots_written kind puts next) first rest
