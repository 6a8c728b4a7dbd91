-- What an image stands for.
use Rattle.ss_journal.proofs.Common.{IsFalse, IsTrue, List, [], ap, arith, cond, false, inl, inr, length, refl, sym, true, ℕ, ◌++◌, ◌+◌, ◌<◌, ◌^◌, ◌∙◌}
use Rattle.ss_journal.proofs.Common.{◌∷◌, ◌≡◌, ◌≤◌, nat_tests, cases_Bool, cond-false, cond-true, All-head, All-nil, All-tail, All, flat_map, slice_index}
use Rattle.ss_journal.proofs.Common.{entries, is_good, open_prefix, puts_of, entry_in, kind_of, is_born, is_unborn, slots_in, IsClosed, opens, extent_after}
use Rattle.ss_journal.proofs.Common.{FillSlots, slots_fit, CameInPart, Gives, Redone, SameMap, SlotMap, StandsFor, bad_entry, blank_map, changed, file_map}
use Rattle.ss_journal.proofs.Common.{not_a_store, puts_in_use, redo_entries, stands, AreSlots, Put}
use Rattle.std.proofs.lemmas.List.Elements.{All-append}
use Rattle.ss_journal.specs.Redo.{entries_in_use, redo}
use Rattle.ss_journal.proofs.EntryLemmas.{FillSlots-puts_of, IsSoundEntry-good, is_good-again, is_good-some}
use Rattle.ss_journal.proofs.HeaderLemmas.{has_magic-same, kind_of-same, is_born-from, is_born-parts, is_born-unborn, is_unborn-born}
use Rattle.ss_journal.proofs.MapLemmas.{SameMap-sym, SameMap-trans, changed-append}
use Rattle.ss_journal.proofs.PrefixLemmas.{entries-long, entries-same, open_prefix-closed, open_prefix-long, open_prefix-open, other_entries}
use Rattle.ss_journal.proofs.PutLemmas.{AreSlots-rise, extent_after-again, extent_after-mono, slots_fit-append, with_puts-again}

-- the same of what was redone
Gives-same : (redone : Redone) (first second : SlotMap) → Gives redone first → Gives redone second → SameMap first second
Gives-same not_a_store first second is also = absurd is
Gives-same (bad_entry n) first second is also = absurd is
Gives-same (stands its) first second is also = SameMap-trans first its second (SameMap-sym its first is) also

-- an image that stands for two maps has them alike
pub StandsFor-same : (image : List ℕ) (first second : SlotMap) → StandsFor image first → StandsFor image second → SameMap first second
StandsFor-same image first second is also = Gives-same (redo image) first second is also

pub StandsFor-from : (image : List ℕ) (its found : SlotMap) → redo image ≡ stands its → SameMap its found → StandsFor image found
StandsFor-from image its found is same = rw is same

-- an image that stands for a map is redone to one that is the same
Gives-parts : (redone : Redone) (found : SlotMap) → Gives redone found → (its : SlotMap) × (redone ≡ stands its) × SameMap its found
Gives-parts not_a_store found is = absurd is
Gives-parts (bad_entry n) found is = absurd is
Gives-parts (stands its) found is = (its, refl, is)

pub StandsFor-parts : (image : List ℕ) (found : SlotMap) → StandsFor image found → (its : SlotMap) × (redo image ≡ stands its) × SameMap its found
StandsFor-parts image found is = Gives-parts (redo image) found is

-- a map that is the same
pub StandsFor-also : (image : List ℕ) (first second : SlotMap) → StandsFor image first → SameMap first second → StandsFor image second
StandsFor-also image first second is same =
    let parts = StandsFor-parts image first is in
    StandsFor-from image parts.0 second parts.1 (SameMap-trans _ _ _ parts.2 same)

-- what a formatted file stands for
pub redo-formed : (image : List ℕ) → IsTrue (is_born image) → redo image ≡ redo_entries 0 (open_prefix (entries image)) (file_map image)
unfolding redo
redo-formed image born = cond-true _ _ _ born

pub entries_in_use-formed : (image : List ℕ) → IsTrue (is_born image) → entries_in_use image ≡ open_prefix (entries image)
unfolding entries_in_use
entries_in_use-formed image born = cond-true _ _ _ born

pub puts_in_use-formed : (image : List ℕ) → IsTrue (is_born image) → puts_in_use image ≡ flat_map puts_of (open_prefix (entries image))
puts_in_use-formed image born = ap (flat_map puts_of) (entries_in_use-formed image born)

pub redo-unborn : (image : List ℕ) → IsTrue (is_unborn image) → redo image ≡ stands (blank_map image)
unfolding redo
redo-unborn image unborn =
    let other = is_unborn-born image in
    grind (arith, nat_tests, unborn, other)

pub entries_in_use-unborn : (content : List ℕ) → IsTrue (is_unborn content) → entries_in_use content ≡ []
unfolding entries_in_use
entries_in_use-unborn content unborn = cond-false (is_born content) _ _ (is_born-unborn content unborn)

pub redo-neither : (content : List ℕ) → IsFalse (is_born content) → IsFalse (is_unborn content) → redo content ≡ not_a_store
unfolding redo
redo-neither content unborn other = cond-false (is_born content) _ _ unborn ∙ cond-false (is_unborn content) _ _ other

-- a file that is the same below the slots has the same entries, and is formatted too
pub redo-same_header : (old new : List ℕ) → IsTrue (is_born old) → length old ≤ length new
    → ((place : ℕ) → place < 36864 → slice_index new place ≡ slice_index old place)
    → IsTrue (is_born new) × (entries new ≡ entries old) × (kind_of new ≡ kind_of old)
redo-same_header old new born long same =
    let was = is_born-parts old born in
    let first = same 0 (omega arith) in
    let kept = has_magic-same old new (omega (arith, was.0)) (omega (arith, was.0)) (λ place low high. same place (omega (arith, high))) in
    let kind = kind_of-same old new (omega (arith, was.0)) (omega (arith, was.0)) (λ place low high. same place (omega (arith, high))) in (
      is_born-from new (omega (arith, was.0, long)) (rw first was.1) (kept ∙ was.2),
      entries-same old new kind was.0 (omega (arith, was.0, long)) (λ place low high. same place high),
      kind,
    )

-- the first entry is sound, and the rest goes on over the map after it
redo_entries-cases : (n : ℕ) (entry : List ℕ) (rest : List (List ℕ)) (found its : SlotMap) → redo_entries n (entry ∷ rest) found ≡ stands its
    → IsTrue (is_good entry found.extent) × (redo_entries (n + 1) rest (changed found (puts_of entry)) ≡ stands its)
redo_entries-cases n entry rest found its is =
    let later = redo_entries (n + 1) rest (changed found (puts_of entry)) in
    elim (is_good entry found.extent) as (λ good. (cond good later (bad_entry n) ≡ stands its) → IsTrue good × (later ≡ stands its)) [
      | true ↦ λ same. (refl, same)
      | false ↦ λ same. absurd (cc)
    ] is

-- sound entries give the map after their puts, which fit in order
pub redo_entries-stands : (n : ℕ) (list : List (List ℕ)) (found its : SlotMap) → redo_entries n list found ≡ stands its
    → (its ≡ changed found (flat_map puts_of list)) × IsTrue (slots_fit (flat_map puts_of list) found.extent) × AreSlots (flat_map puts_of list)
redo_entries-stands n [] found its is = (cc, refl, All-nil (λ (put : Put). put.slot < 2 ^ 20))
redo_entries-stands n (entry ∷ rest) found its is =
    let cases = redo_entries-cases n entry rest found its is in
    let sound = IsSoundEntry-good entry found.extent cases.0 in
    let later = redo_entries-stands (n + 1) rest (changed found (puts_of entry)) its cases.1 in (
      later.0 ∙ sym (changed-append found (puts_of entry) (flat_map puts_of rest)),
      slots_fit-append (puts_of entry) (flat_map puts_of rest) found.extent sound.fit later.1,
      All-append (λ (put : Put). put.slot < 2 ^ 20) (puts_of entry) (flat_map puts_of rest) (AreSlots-rise 0 (puts_of entry) sound.rise) later.2,
    )

FillSlots-entries : (n : ℕ) (list : List (List ℕ)) (found its : SlotMap) → All (λ entry. length entry ≡ 544) list
    → redo_entries n list found ≡ stands its → FillSlots (flat_map puts_of list)
FillSlots-entries n [] found its long is = All-nil (λ (put : Put). length put.bytes ≡ 128)
FillSlots-entries n (entry ∷ rest) found its long is =
    let cases = redo_entries-cases n entry rest found its is in
    let sound = IsSoundEntry-good entry found.extent cases.0 in
    let later = FillSlots-entries (n + 1) rest (changed found (puts_of entry)) its (All-tail (λ (e : List ℕ). length e ≡ 544) entry rest long) cases.1 in
    All-append (λ (put : Put). length put.bytes ≡ 128) (puts_of entry) (flat_map puts_of rest)
    (FillSlots-puts_of entry (All-head (λ (e : List ℕ). length e ≡ 544) entry rest long) sound.few) later

-- and so does a formatted file
pub redo-born : (image : List ℕ) (its : SlotMap) → IsTrue (is_born image) → redo image ≡ stands its
    → (its ≡ changed (file_map image) (puts_in_use image)) × IsTrue (slots_fit (puts_in_use image) (slots_in (length image))) × AreSlots (puts_in_use image)
    × FillSlots (puts_in_use image)
redo-born image its born is =
    let list = open_prefix (entries image) in
    let here : redo_entries 0 list (file_map image) ≡ stands its = sym (redo-formed image born) ∙ is in
    let parts = redo_entries-stands 0 list (file_map image) its here in
    let whole = FillSlots-entries 0 list (file_map image) its (open_prefix-long (entries image) (entries-long image (is_born-parts image born).0)) here in
    let P = λ (puts : List Put). (its ≡ changed (file_map image) puts) × IsTrue (slots_fit puts (slots_in (length image))) × AreSlots puts × FillSlots puts in
    rw puts_in_use-formed (parts.0, parts.1, parts.2, whole)

-- entries that stand over a map stand over one with a greater extent
pub redo_entries-again : (n : ℕ) (list : List (List ℕ)) (old new its : SlotMap) → redo_entries n list old ≡ stands its → old.extent ≤ new.extent
    → redo_entries n list new ≡ stands (changed new (flat_map puts_of list))
redo_entries-again n [] old new its is le = refl
redo_entries-again n (entry ∷ rest) old new its is le = elim (cases_Bool (is_good entry old.extent)) [
  | inl good ↦
      let again = is_good-again entry old.extent new.extent good le in
      let stood : redo_entries (n + 1) rest (changed old (puts_of entry)) ≡ stands its = sym (cond-true _ _ _ good) ∙ is in
      rw (cond-true _ _ _ again.0) (redo_entries-again (n + 1) rest (changed old (puts_of entry)) (changed new (puts_of entry)) its stood
      (extent_after-mono (puts_of entry) old.extent new.extent again.1 le)
      ∙ ap stands (sym (changed-append new (puts_of entry) (flat_map puts_of rest))))
  | inr bad ↦ let other : bad_entry n ≡ stands its = sym (cond-false _ _ _ bad) ∙ is in absurd (cc)
]

-- one sound entry more
pub redo_entries-more : (n : ℕ) (list : List (List ℕ)) (entry : List ℕ) (found its : SlotMap) → redo_entries n list found ≡ stands its
    → IsTrue (is_good entry its.extent) → redo_entries n (list ++ entry ∷ []) found ≡ stands (changed its (puts_of entry))
redo_entries-more n [] entry found its is good =
    let same : found ≡ its = cc in
    rw same (cond-true (is_good entry its.extent) _ _ good)
redo_entries-more n (first ∷ rest) entry found its is good =
    let cases = redo_entries-cases n first rest found its is in
    cond-true (is_good first found.extent) _ _ cases.0 ∙ redo_entries-more (n + 1) rest entry (changed found (puts_of first)) its cases.1 good

-- redo is idempotent: over a map to which any of the puts came already, in whole or in part, it gives the same map
pub redo_entries-idempotent : (n : ℕ) (list : List (List ℕ)) (old found new : SlotMap) → redo_entries n list old ≡ stands found
    → CameInPart (flat_map puts_of list) old found new → Gives (redo_entries n list new) found
redo_entries-idempotent n list old found new is part =
    let puts = flat_map puts_of list in
    let stood = redo_entries-stands n list old found is in
    let most : new.extent ≤ extent_after puts old.extent = rw stood.0 at part.no_more in
    let same : SameMap (changed new puts) (changed old puts) = record {
      bytes = λ slot lt. with_puts-again puts old.bytes new.bytes part.beside slot;
      extent = extent_after-again puts old.extent new.extent stood.1 part.no_less most;
    } in
    rw (redo_entries-again n list old new found is part.no_less, stood.0) same

-- with the first gate closed a formatted file stands for its slots, and no entry is in use
pub redo-first_closed : (image : List ℕ) → IsTrue (is_born image) → IsClosed 0 image
    → (redo image ≡ stands (file_map image)) × (puts_in_use image ≡ []) × (entries_in_use image ≡ [])
redo-first_closed image born closed =
    let none = open_prefix-closed image closed in (
      rw (redo-formed, none),
      puts_in_use-formed image born ∙ ap (flat_map puts_of) none,
      entries_in_use-formed image born ∙ none,
    )

-- entries that stand for a map begin with a sound one
redo_entries-first : (entry : List ℕ) (rest : List (List ℕ)) (found its : SlotMap) → redo_entries 0 (entry ∷ rest) found ≡ stands its
    → IsTrue (is_good entry found.extent)
redo_entries-first entry rest found its is = elim (cases_Bool (is_good entry found.extent)) [
  | inl good ↦ good
  | inr bad ↦ let other : bad_entry 0 ≡ stands its = sym (cond-false _ _ _ bad) ∙ is in absurd (cc)
]

-- with no entry in use the first gate is closed, where the file stands for a map
pub first_closed-none : (image : List ℕ) (its : SlotMap) → IsTrue (is_born image) → redo image ≡ stands its → puts_in_use image ≡ []
    → IsClosed 0 image
first_closed-none image its born is none = elim (cases_Bool (opens (slice_index image 512))) [
  | inl opened ↦
      let prefix = open_prefix-open image opened in
      let stood : redo_entries 0 (entry_in image 0 ∷ open_prefix (other_entries image)) (file_map image) ≡ stands its = ap
      (λ (list : List (List ℕ)). redo_entries 0 list (file_map image)) (sym prefix) ∙ sym (redo-formed image born) ∙ is in
      let empty : puts_of (entry_in image 0) ++ flat_map puts_of (open_prefix (other_entries image)) ≡ [] = ap (flat_map puts_of) (sym prefix)
      ∙ sym (puts_in_use-formed image born) ∙ none in
      absurd (is_good-some (entry_in image 0) _ (redo_entries-first (entry_in image 0) _ (file_map image) its stood) _ empty)
  | inr closed ↦ closed
]
