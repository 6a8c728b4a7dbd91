-- A group of entries: its bytes, and what it makes of a content with room for it.
use Rattle.ss_journal.proofs.Common.{IsTrue, List, [], ap, arith, drop, inl, inr, length, nat_lt, refl, suc, sym, take, zero, ℕ, ◌++◌, ◌+◌}
use Rattle.ss_journal.proofs.Common.{◌*◌, ◌<◌, ◌∙◌, ◌∷◌, ◌≡◌, ◌≤◌, ◌⊎◌, cond-true, lt-ltb, append-nil, append_assoc, length-append, length-drop}
use Rattle.ss_journal.proofs.Common.{take-append-drop, slice_index, get_or-overwrite_inside, get_or-overwrite_outside, length-overwrite, overwrite}
use Rattle.ss_journal.proofs.Common.{entry_body, entry_form, entry_in, Kind, entry_bytes, is_born, kind_of, EndsAt, entry_place, entry_count}
use Rattle.ss_journal.proofs.Common.{group_bytes, open_entry, part, HasRoomFor, closed_behind, gate_behind, with_entries, FillSlots, IsTxn, slots_fit}
use Rattle.ss_journal.proofs.Common.{slots_rise_from, SameMap, SlotMap, StandsFor, changed, entries_in_use, puts_in_use, Put}
use Rattle.std.proofs.Math.Seq.{get_or-append_seam}
use Rattle.ss_journal.proofs.NextEntry.{AddsEntry, AddsGroup, IsReadyFor}
use Rattle.ss_journal.proofs.CommitLemmas.{AddsEntry-opened, StandsFor-opened, entry-overwrite}
use Rattle.ss_journal.proofs.EntryLemmas.{length-entry_body}
use Rattle.ss_journal.proofs.CheckLemmas.{entry_form-gate, entry_form-twice, length-entry_form}
use Rattle.ss_journal.proofs.HeaderLemmas.{is_born-parts, kind_of-same}
use Rattle.ss_journal.proofs.MapLemmas.{SameMap-refl, changed-append, changed-same}
use Rattle.ss_journal.proofs.NewestLemmas.{All-part, entry_count-all, entry_count-before, slots_fit-parts, take-part, txn-part}
use Rattle.ss_journal.proofs.RedoLemmas.{StandsFor-also, StandsFor-from, StandsFor-parts}
use Rattle.ss_journal.proofs.ShownLemmas.{closed_behind-fits, length-group_bytes, with_entries-more}

-- an entry of these puts behind its gate, in the form of a kind
abbrev body_of : Kind → ℕ → List Put → List ℕ
body_of kind n puts = drop 1 (entry_form kind n (165 ∷ entry_body puts))

length-body_of : (kind : Kind) (n : ℕ) (puts : List Put) → FillSlots puts → length puts ≤ 4 → length (body_of kind n puts) ≡ 543
length-body_of kind n puts whole few =
    omega (
      arith,
      length-drop 1 (entry_form kind n (165 ∷ entry_body puts)),
      length-entry_form kind n (165 ∷ entry_body puts),
      length-entry_body puts whole few,
    )

-- an entry that is written over a content with room for it
module _ (kind : Kind) (n : ℕ) (puts : List Put) (content : List ℕ) (same_kind : kind ≡ kind_of content)
    (ready : IsReadyFor n puts content) (free : n < 64) (whole : FillSlots puts) (txn : IsTxn puts) where
  abbrev written : List ℕ
  written = closed_behind n (165 ∷ body_of kind n puts)

  abbrev image : List ℕ
  image = overwrite content (entry_place n) written

  long : 36864 ≤ length content
  long = (is_born-parts content ready.born).0

  within : entry_place n ≤ length content
  within = omega (arith, long, free)

  size-body : length (body_of kind n puts) ≡ 543
  size-body = length-body_of kind n puts whole txn.few

  fits : 544 * n + length written ≤ 544 * 64
  fits = closed_behind-fits n (165 ∷ body_of kind n puts) (omega (arith, free, size-body))

  size : length image ≡ length content
  size = omega (arith, long, fits, length-overwrite content written (entry_place n) within)

  beside : (place : ℕ) → (place < entry_place n) ⊎ (36864 ≤ place) → slice_index image place ≡ slice_index content place
  beside place (inl below) = get_or-overwrite_outside content written (entry_place n) within place (inl below)
  beside place (inr from) = get_or-overwrite_outside content written (entry_place n) within place (inr (omega (arith, from, fits)))

  same-image : kind_of image ≡ kind
  same-image = kind_of-same content image (omega (arith, long)) (omega (arith, long, size)) (λ place low high. beside place (inl (omega (arith, high))))
      ∙ sym same_kind

  bytes-entry : entry_bytes image n ≡ 165 ∷ body_of kind n puts
  bytes-entry =
      entry-overwrite n content (165 ∷ body_of kind n puts) (gate_behind (544 * n + length (165 ∷ body_of kind n puts))) within (omega (arith, size-body))

  is_entry : entry_in image n ≡ 165 ∷ entry_body puts
  is_entry = rw (same-image, bytes-entry, ← entry_form-gate, entry_form-twice)

  -- the gate behind it is closed
  closed-after : EndsAt (n + 1) image
  closed-after lt =
      let end = 544 * n + length (165 ∷ body_of kind n puts) in
      let before : end < 544 * 64 = omega (arith, lt, size-body) in
      let one : gate_behind end ≡ 0 ∷ [] = cond-true (nat_lt end (544 * 64)) (0 ∷ []) [] (lt-ltb end (544 * 64) before) in
      let all : written ≡ 165 ∷ body_of kind n puts ++ 0 ∷ [] = ap (λ (list : List ℕ). 165 ∷ body_of kind n puts ++ list) one in
      let there : entry_place n + length (165 ∷ body_of kind n puts) ≡ entry_place (n + 1) = omega (arith, size-body) in
      let inside : length (165 ∷ body_of kind n puts) < length written = omega (arith, ap length all, length-append (165 ∷ body_of kind n puts) (0 ∷ [])) in
      let byte : slice_index image (entry_place (n + 1)) ≡ 0 =
      ap (slice_index image) (sym there) ∙ get_or-overwrite_inside content written (entry_place n) within (length (165 ∷ body_of kind n puts)) inside
      ∙ ap (λ (list : List ℕ). slice_index list (length (165 ∷ body_of kind n puts))) all ∙ get_or-append_seam (165 ∷ body_of kind n puts) 0 [] 0 in
      rw byte

  AddsEntry-written : AddsEntry n puts content image
  AddsEntry-written = AddsEntry-opened n puts content image ready free size beside whole txn is_entry closed-after

  StandsFor-entry : (found : SlotMap) → StandsFor content found → StandsFor image (changed found puts)
  StandsFor-entry = StandsFor-opened n puts content image ready free size beside whole txn is_entry closed-after

-- one entry more of a group
pub group_bytes-more : (kind : Kind) (n k : ℕ) (puts : List Put)
    → group_bytes kind n k puts ++ open_entry kind (n + k) (part k puts) ≡ group_bytes kind n (k + 1) puts
group_bytes-more kind n k puts =
    let next : suc k ≡ k + 1 = omega arith in
    ap (λ (count : ℕ). group_bytes kind n count puts) next

-- its first gate is open
group_bytes-first : (kind : Kind) (n k : ℕ) (puts : List Put) → (rest : List ℕ) × (group_bytes kind n (suc k) puts ≡ 165 ∷ rest)
group_bytes-first kind n zero puts = (body_of kind (n + 0) (part 0 puts), entry_form-gate kind (n + 0) 165 (entry_body (part 0 puts)))
group_bytes-first kind n (suc k) puts =
    let before = group_bytes-first kind n k puts in
    let entry = open_entry kind (n + suc k) (part (suc k) puts) in
    (before.0 ++ entry, ap (λ (bytes : List ℕ). bytes ++ entry) before.1)

pub opens-group_bytes : (kind : Kind) (n k : ℕ) (puts : List Put) → 0 < k → slice_index (group_bytes kind n k puts) 0 ≡ 165
opens-group_bytes kind n zero puts some = absurd (omega (arith, some))
opens-group_bytes kind n (suc k) puts some = ap (λ (bytes : List ℕ). slice_index bytes 0) (group_bytes-first kind n k puts).1

-- also with the gate behind it
pub opens-closed_behind : (kind : Kind) (n k : ℕ) (puts : List Put) → 0 < k → slice_index (closed_behind n (group_bytes kind n k puts)) 0 ≡ 165
opens-closed_behind kind n zero puts some = absurd (omega (arith, some))
opens-closed_behind kind n (suc k) puts some =
    ap (λ (bytes : List ℕ). slice_index (bytes ++ gate_behind (544 * n + length (group_bytes kind n (suc k) puts))) 0) (group_bytes-first kind n k puts).1

-- so many entries from entry n on, of these puts, are in use after those before them, and the gate after them is closed
record AddsEntries (n count : ℕ) (puts : List Put) (old new : List ℕ) : Type 0 where
  size : length new ≡ length old
  kind : kind_of new ≡ kind_of old
  born : IsTrue (is_born new)
  closed : EndsAt (n + count) new
  number : n + count ≡ length (entries_in_use new)
  all : puts_in_use new ≡ puts_in_use old ++ puts

-- as many as hold the puts
AddsGroup-entries : (n : ℕ) (puts : List Put) (old new : List ℕ) → AddsEntries n (entry_count (length puts)) puts old new → AddsGroup n puts old new
AddsGroup-entries n puts old new adds = record {
  size = adds.size;
  kind = adds.kind;
  born = adds.born;
  closed = adds.closed;
  number = adds.number;
  all = adds.all;
}

-- a group that is written over a content with room for it
module _ (kind : Kind) (n : ℕ) (puts : List Put) (content : List ℕ) (same_kind : kind ≡ kind_of content) (room : HasRoomFor n puts content)
    (rise : IsTrue (slots_rise_from 0 puts)) (whole : FillSlots puts) (few : n + entry_count (length puts) ≤ 64) where
  abbrev bytes : ℕ → List ℕ
  bytes k = group_bytes kind n k puts

  -- the content with its first k entries, and their puts
  abbrev with_first : ℕ → List ℕ
  with_first k = with_entries n (bytes k) content

  abbrev first_puts : ℕ → List Put
  first_puts k = take (4 * k) puts

  abbrev first_map : ℕ → SlotMap
  first_map k = changed room.ends.found (first_puts k)

  -- so many of its entries are in use over this image
  abbrev HasFirst : ℕ → List ℕ → Type 0
  HasFirst k image = AddsEntries n k (first_puts k) content image × StandsFor image (first_map k)

  none : HasFirst 0 content
  none =
      let here : n ≡ n + 0 = omega arith in (
        record {
          kind = refl;
          born = room.ends.born;
          closed = rw (← here) (λ lt. room.ends.closed);
          number = omega (arith, room.ends.number);
          all = sym (append-nil (puts_in_use content));
          size = refl;
        },
        StandsFor-from content room.ends.found room.ends.found room.ends.map (SameMap-refl room.ends.found),
      )

  first_puts-more : (k : ℕ) → first_puts (suc k) ≡ first_puts k ++ part k puts
  first_puts-more k =
      let more : 4 * suc k ≡ 4 * (k + 1) = omega arith in
      rw (more, take-part)

  -- the puts of entry k fit the map of those before it
  fit-part : (k : ℕ) → IsTrue (slots_fit (part k puts) (first_map k).extent)
  fit-part k =
      let all : IsTrue (slots_fit (first_puts (suc k) ++ drop (4 * suc k) puts) room.ends.found.extent) =
      rw take-append-drop room.fit in
      let first = (slots_fit-parts (first_puts (suc k)) (drop (4 * suc k) puts) room.ends.found.extent all).0 in
      (slots_fit-parts (first_puts k) (part k puts) room.ends.found.extent (rw first_puts-more at first)).1

  -- one entry more
  module _ (k : ℕ) (lt : k < entry_count (length puts)) (had : HasFirst k (with_first k)) where
    abbrev next : ℕ
    next = n + k

    free : next < 64
    free = omega (arith, lt, few)

    fill : FillSlots (part k puts)
    fill = All-part (λ (put : Put). length put.bytes ≡ 128) k puts whole

    txn : IsTxn (part k puts)
    txn = txn-part k puts rise (entry_count-before k (length puts) lt)

    kind-first : kind ≡ kind_of (with_first k)
    kind-first = same_kind ∙ sym had.0.kind

    ready : IsReadyFor next (part k puts) (with_first k)
    ready =
        let parts = StandsFor-parts (with_first k) (first_map k) had.1 in
        record {
          born = had.0.born;
          closed = had.0.closed;
          number = had.0.number;
          found = parts.0;
          map = parts.1;
          fit = rw parts.2.extent (fit-part k);
        }

    abbrev grown : List ℕ
    grown = overwrite (with_first k) (entry_place next) (closed_behind next (165 ∷ body_of kind next (part k puts)))

    is_grown : with_first (suc k) ≡ grown
    is_grown =
        ap (λ (entry : List ℕ). with_entries n (bytes k ++ entry) content) (entry_form-gate kind next 165 (entry_body (part k puts)))
        ∙ with_entries-more n next 165 (bytes k) (body_of kind next (part k puts)) content
        (omega (arith, (is_born-parts content room.ends.born).0, few)) (omega (arith, length-group_bytes kind n k puts whole))

    adds : AddsEntry next (part k puts) (with_first k) grown
    adds = AddsEntry-written kind next (part k puts) (with_first k) kind-first ready free fill txn

    adds-first : AddsEntries n (suc k) (first_puts (suc k)) content grown
    adds-first =
        let there : next + 1 ≡ n + suc k = omega arith in
        record {
          kind = adds.kind ∙ had.0.kind;
          born = adds.born;
          closed = rw there at adds.closed;
          number = omega (arith, adds.number);
          all = rw (adds.all, had.0.all, append_assoc, ← first_puts-more);
          size = size kind next (part k puts) (with_first k) kind-first ready free fill txn ∙ had.0.size;
        }

    stands-first : StandsFor grown (first_map (suc k))
    stands-first = rw (ap (changed room.ends.found) (first_puts-more k) ∙ changed-append room.ends.found (first_puts k) (part k puts))
        (StandsFor-entry kind next (part k puts) (with_first k) kind-first ready free fill txn (first_map k) had.1)

    more : HasFirst (suc k) (with_first (suc k))
    more = rw is_grown (adds-first, stands-first)

  has_first : (k : ℕ) → k ≤ entry_count (length puts) → HasFirst k (with_first k)
  has_first zero le = none
  has_first (suc k) le = more k (omega (arith, le)) (has_first k (omega (arith, le)))

  abbrev group : List ℕ
  group = with_first (entry_count (length puts))

  abbrev has_all : HasFirst (entry_count (length puts)) group
  has_all = has_first (entry_count (length puts)) (omega arith)

  pub AddsGroup-written : AddsGroup n puts content group
  AddsGroup-written = AddsGroup-entries n puts content group (rw entry_count-all at has_all.0)

  pub StandsFor-written : (found : SlotMap) → StandsFor content found → StandsFor group (changed found puts)
  StandsFor-written found is =
      let same : SameMap room.ends.found found = rw room.ends.map at is in
      StandsFor-also group (changed room.ends.found puts) (changed found puts) (rw entry_count-all at has_all.1) (changed-same puts room.ends.found found same)
