-- A transaction in the next entry, and the gate that makes it count.
use Rattle.ss_journal.proofs.Common.{IsTrue, List, [], ap, arith, drop, inl, inr, length, map, sym, take, ℕ, ◌++◌, ◌+◌, ◌<◌, ◌∙◌, ◌∷◌, ◌≡◌, ◌≤◌, ◌⊎◌, cases_eq}
use Rattle.ss_journal.proofs.Common.{flat_map-append, map-range_with_len_more, append-nil, append_assoc, drop_at, length-append, length-take-le, take_at}
use Rattle.ss_journal.proofs.Common.{range_with_len, flat_map, slice_index, overwrite, entries, entry_body, is_good, open_prefix, puts_of, entry_in}
use Rattle.ss_journal.proofs.Common.{entry_bytes, is_born, kind_of, EndsAt, IsClosed, entry_place, is_open, EndsBefore, FillSlots, IsTxn, SameMap, SlotMap}
use Rattle.ss_journal.proofs.Common.{StandsFor, changed, entries_in_use, file_map, redo, redo_entries, stands, Put}
use Rattle.ss_journal.proofs.NextEntry.{AddsEntry, IsReadyFor}
use Rattle.ss_journal.proofs.EntryLemmas.{is_good-body, puts_of-body}
use Rattle.ss_journal.proofs.HeaderLemmas.{is_born-parts, is_born-same, kind_of-same, piece-same}
use Rattle.ss_journal.proofs.MapLemmas.{SameMap-trans, changed-same, file_map-same}
use Rattle.ss_journal.proofs.PrefixLemmas.{IsPrefix, IsPrefix-entries, entry_in-same, gate-entry_in, map-range-same, open_prefix-entries, open_prefix-is}
use Rattle.ss_journal.proofs.RedoLemmas.{StandsFor-from, entries_in_use-formed, redo-formed, redo_entries-again, redo_entries-more, redo_entries-stands}

-- the entry that was written
pub entry-overwrite : (n : ℕ) (content entry end : List ℕ) → entry_place n ≤ length content → length entry ≡ 544
    → entry_bytes (overwrite content (entry_place n) (entry ++ end)) n ≡ entry
entry-overwrite n content entry end within long =
    let rest = drop (entry_place n + length (entry ++ end)) content in
    ap (λ (list : List ℕ). take 544 (drop (entry_place n) list)) (append_assoc (take (entry_place n) content) (entry ++ end) rest)
    ∙ ap (take 544) (drop_at (take (entry_place n) content) ((entry ++ end) ++ rest) (entry_place n) (length-take-le (entry_place n) content within))
    ∙ ap (take 544) (append_assoc entry end rest) ∙ take_at entry (end ++ rest) 544 long

-- a content that ends before entry n, and an image that differs in entries from there on
module _ (n : ℕ) (content image : List ℕ) (ends : EndsBefore n content) (free : n < 64) (size : length image ≡ length content)
    (beside : (place : ℕ) → (place < entry_place n) ⊎ (36864 ≤ place) → slice_index image place ≡ slice_index content place) where
  abbrev list : List (List ℕ)
  list = open_prefix (entries content)

  long : 36864 ≤ length content
  long = (is_born-parts content ends.born).0

  pub born-image : IsTrue (is_born image)
  born-image = is_born-same content image ends.born size (λ place lt. beside place (inl (omega (arith, lt))))

  pub kind-image : kind_of image ≡ kind_of content
  kind-image = kind_of-same content image (omega (arith, long)) (omega (arith, long, size)) (λ place low high. beside place (inl (omega (arith, high))))

  pub map-image : SameMap (file_map image) (file_map content)
  map-image = file_map-same content image kind-image size (λ place from. beside place (inr from))

  before : (k : ℕ) → k < n → entry_in image k ≡ entry_in content k
  before k lt = entry_in-same content image k kind-image (piece-same content image (entry_place k) 544 (omega (arith, long, lt, free))
      (omega (arith, long, size, lt, free)) (λ place low high. beside place (inl (omega (arith, high, lt)))))

  in_prefix : IsPrefix (entry_in content) 0 64 n
  in_prefix = IsPrefix-entries content n (ends.number ∙ ap length (entries_in_use-formed content ends.born))

  pub opened-before : (k : ℕ) → k < n → IsTrue (is_open (entry_in image k))
  opened-before k lt = rw before (in_prefix.opened k (omega arith) (omega (arith, lt)))

  prefix-content : list ≡ map (entry_in content) (range_with_len 0 n)
  prefix-content = open_prefix-is content n in_prefix

  pub same-before : map (entry_in image) (range_with_len 0 n) ≡ list
  same-before = map-range-same (entry_in image) (entry_in content) 0 n (λ k low high. before k (omega (arith, high))) ∙ sym prefix-content

  -- the entries in use over the image's own slots
  pub redone-before : redo_entries 0 list (file_map image) ≡ stands (changed (file_map image) (flat_map puts_of list))
  redone-before = redo_entries-again 0 list (file_map content) (file_map image) ends.found (sym (redo-formed content ends.born) ∙ ends.map)
      (omega (arith, map-image.extent))

  pub same-redone : SameMap (changed (file_map image) (flat_map puts_of list)) ends.found
  same-redone =
      let stood = redo_entries-stands 0 list (file_map content) ends.found (sym (redo-formed content ends.born) ∙ ends.map) in
      rw stood.0 (changed-same (flat_map puts_of list) (file_map image) (file_map content) map-image)

  pub same-found : (found : SlotMap) → StandsFor content found → SameMap (changed (file_map image) (flat_map puts_of list)) found
  same-found found is = SameMap-trans _ _ _ same-redone (rw ends.map at is)

  -- after a closed gate anything may stand
  module _ (closed : IsClosed n image) where
    prefix-closed : open_prefix (entries image) ≡ list
    prefix-closed =
        open_prefix-entries image n (omega (arith, free)) opened-before (λ lt. rw gate-entry_in closed)
        ∙ same-before

    pub StandsFor-closed : (found : SlotMap) → StandsFor content found → StandsFor image found
    StandsFor-closed found is =
        StandsFor-from image (changed (file_map image) (flat_map puts_of list)) found
        (rw (redo-formed image born-image, prefix-closed, redone-before)) (same-found found is)

-- where the next entry is free
abbrev pub EndsBefore-ready : (n : ℕ) (puts : List Put) (content : List ℕ) → IsReadyFor n puts content → n < 64 → EndsBefore n content
EndsBefore-ready n puts content ready free = record {
  born = ready.born;
  closed = ready.closed free;
  number = ready.number;
  found = ready.found;
  map = ready.map;
}

-- a content with n entries in use, and an image that differs in entries from n on, where entry n stands whole and open, and ends
module _ (n : ℕ) (puts : List Put) (content image : List ℕ) (ready : IsReadyFor n puts content) (free : n < 64) (size : length image ≡ length content)
    (from-slots : (place : ℕ) → (place < entry_place n) ⊎ (36864 ≤ place) → slice_index image place ≡ slice_index content place)
    (whole : FillSlots puts) (txn : IsTxn puts) (is_entry : entry_in image n ≡ 165 ∷ entry_body puts) (closed-after : EndsAt (n + 1) image) where
  abbrev before_it : List (List ℕ)
  before_it = open_prefix (entries content)

  abbrev map-before : SlotMap
  map-before = changed (file_map image) (flat_map puts_of before_it)

  abbrev entry : List ℕ
  entry = 165 ∷ entry_body puts

  abbrev ends : EndsBefore n content
  ends = EndsBefore-ready n puts content ready free

  born : IsTrue (is_born image)
  born = born-image n content image ends free size from-slots

  redone : redo_entries 0 before_it (file_map image) ≡ stands map-before
  redone = redone-before n content image ends free size from-slots

  opened-to : (k : ℕ) → k < n + 1 → IsTrue (is_open (entry_in image k))
  opened-to k lt = elim (cases_eq k n) [
    | inl same ↦ rw same (rw is_entry)
    | inr other ↦ opened-before n content image ends free size from-slots k (omega (arith, lt, other))
  ]

  prefix-opened : open_prefix (entries image) ≡ before_it ++ entry ∷ []
  prefix-opened =
      rw (open_prefix-entries image (n + 1) (omega (arith, free)) opened-to (λ lt. rw gate-entry_in (closed-after lt)))
      (rw (map-range_with_len_more (entry_in image) 0 n n (omega arith), same-before n content image ends free size from-slots, is_entry))

  good-entry : IsTrue (is_good entry map-before.extent)
  good-entry = is_good-body puts 165 _ whole txn (rw (same-redone n content image ends free size from-slots).extent ready.fit)

  redo-opened : redo image ≡ stands (changed map-before puts)
  redo-opened =
      redo-formed image born ∙ ap (λ (all : List (List ℕ)). redo_entries 0 all (file_map image)) prefix-opened
      ∙ redo_entries-more 0 before_it entry (file_map image) map-before redone good-entry
      ∙ ap (λ (p : List Put). stands (changed map-before p)) (puts_of-body puts 165 whole txn)

  pub StandsFor-opened : (found : SlotMap) → StandsFor content found → StandsFor image (changed found puts)
  StandsFor-opened found is = StandsFor-from image (changed map-before puts) (changed found puts) redo-opened
      (changed-same puts map-before found (same-found n content image ends free size from-slots found is))

  in_use-opened : entries_in_use image ≡ entries_in_use content ++ entry ∷ []
  in_use-opened = rw (entries_in_use-formed image born, prefix-opened, ← entries_in_use-formed content ready.born)

  puts-opened : flat_map puts_of (entry ∷ []) ≡ puts
  puts-opened = append-nil (puts_of entry) ∙ puts_of-body puts 165 whole txn

  pub AddsEntry-opened : AddsEntry n puts content image
  AddsEntry-opened = record {
    kind = kind-image n content image ends free size from-slots;
    born = born;
    closed = closed-after;
    number = omega (arith, ready.number, ap length in_use-opened, length-append (entries_in_use content) (entry ∷ []));
    all = rw (in_use-opened, flat_map-append, puts-opened);
  }
