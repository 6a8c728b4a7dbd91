-- Entries in use, whose puts are written into their slots, lost, torn or whole.
use Rattle.ss_journal.proofs.Common.{IsTrue, List, [], ap, arith, inl, inr, length, nat_eq, refl, sym, ℕ, ◌<◌, ◌^◌, ◌∙◌, ◌∷◌, ◌≡◌, ◌≤◌, cases_Bool, cases_eq}
use Rattle.ss_journal.proofs.Common.{cases_lt, eqb-false, eqb-true, or_parts, All-weaker, ext_get_or, slice_index, get_or-overwrite_inside, IsOutside}
use Rattle.ss_journal.proofs.Common.{overwrite, entries, open_prefix, Kind, is_born, kind_of, slots_in, opens, DoAs, FillSlots, extent_after, is_put, slots_fit}
use Rattle.ss_journal.proofs.Common.{with_puts, CameInPart, entries_in_use, SameMap, SlotMap, StandsFor, changed, file_map, puts_in_use, redo, redo_entries}
use Rattle.ss_journal.proofs.Common.{stands, StaysShut, AreSlots, DiffersAt, DiffersIn, HasSlotsFor, length_with, slot_ranges, slots_written, Put}
use Rattle.ss_journal.specs.Redo.{InUse}
use Rattle.ss_journal.proofs.GateLemmas.{StandsFor-first_closed}
use Rattle.ss_journal.proofs.HeaderLemmas.{is_born-parts, is_born-same, kind_of-same}
use Rattle.ss_journal.proofs.MapLemmas.{SameMap-refl, SameMap-trans, file_map-same}
use Rattle.ss_journal.proofs.NewestLemmas.{beside-DoAs}
use Rattle.ss_journal.proofs.PutLemmas.{extent_after-again, extent_after-bound, is_put-none, slots_fit-again, slots_fit-below}
use Rattle.ss_journal.proofs.RangeLemmas.{DiffersIn-overwrite, get_or-differs, length-differs}
use Rattle.ss_journal.proofs.RedoLemmas.{StandsFor-from, StandsFor-also, StandsFor-parts, StandsFor-same, entries_in_use-formed, redo-born, redo-first_closed}
use Rattle.ss_journal.proofs.RedoLemmas.{redo-formed, redo-same_header, redo_entries-idempotent}
use Rattle.ss_journal.proofs.SlotLemmas.{AgreeBeside-torn, DiffersIn-slots_written, file_map-slots_written, outside_slots, slots_in-mono, slots_in-torn}

-- puts that leave every map are none
none_from_leaves : (puts : List Put) → ((map : ℕ → List ℕ) (slot : ℕ) → with_puts puts map slot ≡ map slot) → puts ≡ []
none_from_leaves [] leaves = refl
none_from_leaves (put ∷ puts) leaves =
    let none = is_put-none (put ∷ puts) put.slot (λ map. leaves map put.slot) in
    let apart = or_parts (nat_eq put.slot put.slot) (is_put puts put.slot) none in
    absurd (eqb-false put.slot put.slot apart.0 refl)

-- no put does as none alone
pub DoAs-none_few : {all few : List Put} {size : ℕ} → DoAs all size few → few ≡ [] → all ≡ []
DoAs-none_few {all} {few} {size} does none = none_from_leaves all (λ map slot. sym (rw none at (does.bytes map slot)))

DoAs-none_all : {all few : List Put} {size : ℕ} → DoAs all size few → all ≡ [] → few ≡ []
DoAs-none_all {all} {few} {size} does none = none_from_leaves few (λ map slot. rw none at (does.bytes map slot))

-- few puts are for slots that a file can have, where all of them are
AreSlots-few : {all few : List Put} {size : ℕ} → DoAs all size few → AreSlots all → size ≤ 2 ^ 20 → AreSlots few
AreSlots-few {all} {few} {size} does slots le =
    let most = extent_after-bound all size (2 ^ 20) slots le in
    All-weaker (λ (put : Put). put.slot < extent_after few size) (λ (put : Put). put.slot < 2 ^ 20) (λ put lt. omega (arith, lt, does.extent, most)) few
    (slots_fit-below few size does.fit)

-- they do the same in a file that grew by some of the puts
DoAs-grown : {all few : List Put} {old new : ℕ} → DoAs all old few → IsTrue (slots_fit all old) → old ≤ new → new ≤ extent_after all old → DoAs all new few
DoAs-grown {all} {few} {old} {new} does fit le most = record {
  bytes = does.bytes;
  fit = slots_fit-again few old new does.fit le;
  extent = extent_after-again few old new does.fit le (omega (arith, most, does.extent)) ∙ does.extent ∙ sym (extent_after-again all old new fit le most);
  whole = does.whole;
}

-- the entries in use, by the file and the puts that do what theirs do
module _ (puts : List Put) (content : List ℕ) (born : IsTrue (is_born content)) (in_use : InUse puts content) where
  redone : (in_use.found ≡ changed (file_map content) (puts_in_use content)) × IsTrue (slots_fit (puts_in_use content) (slots_in (length content)))
      × AreSlots (puts_in_use content) × FillSlots (puts_in_use content)
  redone = redo-born content in_use.found born in_use.map

  -- the puts make the same map of the file
  few_map : SameMap (changed (file_map content) puts) in_use.found
  few_map = rw redone.0 (record { bytes = λ slot lt. in_use.all.bytes (file_map content).bytes slot; extent = in_use.all.extent })

  same_map : (found : SlotMap) → StandsFor content found → SameMap in_use.found found
  same_map found is = rw in_use.map at is

  in_use-slots : AreSlots puts
  in_use-slots = AreSlots-few in_use.all redone.2 (omega arith)

  pub long-in_use : 36864 ≤ length content
  long-in_use = (is_born-parts content born).0

  pub StandsFor-found : StandsFor content in_use.found
  StandsFor-found = StandsFor-from content in_use.found in_use.found in_use.map (SameMap-refl in_use.found)

  -- any of the puts may have come to the file, in whole or in part
  module _ (image : List ℕ) (differs : DiffersIn (slot_ranges puts) content image) where
    part : CameInPart (puts_in_use content) (file_map content) in_use.found (file_map image)
    part = record {
      beside = λ slot none. AgreeBeside-torn puts content image in_use.all.fit differs slot (beside-DoAs in_use.all slot none);
      no_less = slots_in-mono (length content) (length image) differs.no_shorter;
      no_more = rw few_map.extent at (slots_in-torn puts content image in_use.all.fit differs);
    }

    header : IsTrue (is_born image) × (entries image ≡ entries content) × (kind_of image ≡ kind_of content)
    header = redo-same_header content image born differs.no_shorter
        (λ place lt. differs.kept place (omega (arith, lt, long-in_use)) (outside_slots puts place lt))

    same_entries : open_prefix (entries image) ≡ entries_in_use content
    same_entries = ap open_prefix header.1 ∙ sym (entries_in_use-formed content born)

    -- redo is idempotent
    again : StandsFor image in_use.found
    again =
        let was : redo_entries 0 (entries_in_use content) (file_map content) ≡ stands in_use.found = rw (entries_in_use-formed, ← redo-formed, in_use.map) in
        let its : redo image ≡ redo_entries 0 (entries_in_use content) (file_map image) = rw (redo-formed image header.0, same_entries) in
        rw its (redo_entries-idempotent 0 (entries_in_use content) (file_map content) in_use.found (file_map image) was part)

    -- the map stays, since the entries stand
    pub StandsFor-slots_torn : (found : SlotMap) → StandsFor content found → StandsFor image found
    StandsFor-slots_torn found is = StandsFor-also image in_use.found found again (same_map found is)

    pub kind-slots_torn : kind_of image ≡ kind_of content
    kind-slots_torn = header.2

    pub InUse-slots_torn : IsTrue (is_born image) × InUse puts image
    InUse-slots_torn =
        let parts = StandsFor-parts image in_use.found again in (
          header.0,
          record {
            all = rw (sym same_entries ∙ sym (entries_in_use-formed image header.0)) at (DoAs-grown in_use.all redone.1 part.no_less
                (rw redone.0 at part.no_more));
            found = parts.0;
            map = parts.1;
          },
        )

  -- written, they stand in their slots: the file alone gives the map
  pub SameMap-slots_written : (kind : Kind) → kind ≡ kind_of content → (found : SlotMap) → StandsFor content found
      → SameMap (file_map (slots_written kind puts content)) found
  SameMap-slots_written kind same found is =
      SameMap-trans _ _ _ (file_map-slots_written kind puts content same long-in_use in_use.all.fit in_use-slots in_use.all.whole)
      (SameMap-trans _ _ _ few_map (same_map found is))

-- with puts in use the first gate is open
first_open : (puts : List Put) (content : List ℕ) → 0 < length puts → IsTrue (is_born content) → InUse puts content → IsTrue (opens (slice_index content 512))
first_open puts content some born in_use = elim (cases_Bool (opens (slice_index content 512))) [
  | inl opened ↦ opened
  | inr closed ↦
      let none : puts ≡ [] = DoAs-none_all in_use.all (redo-first_closed content born closed).1 in
      absurd (omega (arith, some, ap length none))
]

-- then the first gate, which is open, may be torn or closed
pub StandsFor-first_gate : (puts : List Put) (content image : List ℕ) (found : SlotMap) → 0 < length puts → IsTrue (is_born content) → InUse puts content
    → StandsFor content found → SameMap (file_map content) found → DiffersAt 512 1 content image
    → StandsFor image found × IsTrue (is_born image) × (kind_of image ≡ kind_of content)
StandsFor-first_gate puts content image found some formed in_use is same differs =
    let long = long-in_use puts content formed in_use in
    let ranges : List (ℕ × ℕ) = (512, 1) ∷ [] in
    let inside : length_with ranges (length content) ≤ length content = omega (arith, long) in
    let size = length-differs ranges content image inside differs in
    let beside : (place : ℕ) → IsOutside 512 1 place → slice_index image place ≡ slice_index content place = λ place out. get_or-differs ranges content image
    inside differs place (out, tt) in
    let born = is_born-same content image formed size (λ place lt. beside place (inl (omega (arith, lt)))) in
    let kind = kind_of-same content image (omega (arith, long)) (omega (arith, long, size)) (λ place low high. beside place (inl (omega (arith, high)))) in (
      elim (cases_Bool (opens (slice_index image 512))) [
        | inl opened ↦
            let gate : slice_index image 512 ≡ slice_index content 512 = eqb-true (slice_index image 512) 165 opened
            ∙ sym (eqb-true (slice_index content 512) 165 (first_open puts content some formed in_use)) in
            let all : image ≡ content = ext_get_or 0 image content size (λ place lt. elim (cases_eq place 512) [
              | inl here ↦ rw here gate
              | inr other ↦ elim (cases_lt place 512) [ inl below ↦ beside place (inl below) | inr from ↦ beside place (inr (omega (arith, from, other))) ]
            ]) in
            rw all is
        | inr closed ↦ StandsFor-first_closed image found born closed
            (SameMap-trans _ _ _ (file_map-same content image kind size (λ place from. beside place (inr (omega (arith, from))))) same)
      ],
      born,
      kind,
    )

module _ (kind : Kind) (puts : List Put) (content : List ℕ) (same : kind ≡ kind_of content) (born : IsTrue (is_born content))
    (in_use : InUse puts content) where
  pub HasSlotsFor-in_use : HasSlotsFor puts content
  HasSlotsFor-in_use = record { long = long-in_use puts content born in_use; fit = in_use.all.fit }

  pub differs-written : DiffersIn (slot_ranges puts) content (slots_written kind puts content)
  differs-written =
      DiffersIn-slots_written kind puts content (long-in_use puts content born in_use) in_use.all.fit (in_use-slots puts content born in_use) in_use.all.whole

  pub long-slots_written : 36864 ≤ length (slots_written kind puts content)
  long-slots_written = omega (arith, differs-written.no_shorter, long-in_use puts content born in_use)

  -- with the puts in their slots the file alone gives the map, and the same entries are in use
  stands-written : StandsFor (slots_written kind puts content) in_use.found
  stands-written = StandsFor-slots_torn puts content born in_use (slots_written kind puts content) differs-written in_use.found
      (StandsFor-found puts content born in_use)

  in_use-written : IsTrue (is_born (slots_written kind puts content)) × InUse puts (slots_written kind puts content)
  in_use-written = InUse-slots_torn puts content born in_use (slots_written kind puts content) differs-written

  -- then the gate may be torn or closed
  pub StandsFor-applied : (image : List ℕ) (found : SlotMap) → 0 < length puts → StandsFor (slots_written kind puts content) found
      → DiffersAt 512 1 (slots_written kind puts content) image
      → StandsFor image found × IsTrue (is_born image) × (kind_of image ≡ kind_of (slots_written kind puts content))
  StandsFor-applied image found some is differs =
      let alike = StandsFor-same (slots_written kind puts content) in_use.found found stands-written is in
      StandsFor-first_gate puts (slots_written kind puts content) image found some in_use-written.0 in_use-written.1 is
      (SameMap-trans _ _ _ (SameMap-slots_written puts content born in_use kind same in_use.found (StandsFor-found puts content born in_use)) alike) differs

  pub closed-written : 0 < length puts
      → StaysShut content (overwrite (slots_written kind puts content) 512 (0 ∷ []))
  closed-written some =
      let within : 512 ≤ length (slots_written kind puts content) = omega (arith, long-slots_written) in
      let applied = StandsFor-applied (overwrite (slots_written kind puts content) 512 (0 ∷ [])) in_use.found some stands-written
      (DiffersIn-overwrite 512 (slots_written kind puts content) (0 ∷ []) within) in (
        (
          applied.1,
          rw (get_or-overwrite_inside (slots_written kind puts content) (0 ∷ []) 512 within 0 (omega arith)),
        ),
        applied.2 ∙ kind-slots_torn puts content born in_use (slots_written kind puts content) differs-written,
      )
