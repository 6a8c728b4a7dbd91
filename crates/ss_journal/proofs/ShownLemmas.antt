-- What a journal shows: the content with the entries that are staged.
use Rattle.ss_journal.proofs.Common.{IsTrue, List, [], ap, arith, drop, inl, inr, length, nat_lt, refl, sym, ℕ, ◌++◌, ◌+◌, ◌*◌, ◌<◌, ◌∙◌, ◌∷◌, ◌≡◌}
use Rattle.ss_journal.proofs.Common.{◌≤◌, ◌⊎◌, cases_Bool, cases_lt, cond-false, cond-true, le-ltb, lt-ltb, append-nil, append_assoc, length-append}
use Rattle.ss_journal.proofs.Common.{length-take, slice_index, get_or-overwrite_outside, length-overwrite, overwrite, is_born, kind_of, slot_at, slot_place}
use Rattle.ss_journal.proofs.Common.{slots_in, entry_place, entry_body, entry_count, group_bytes, open_entry, part, FillSlots, All-drop, All-take, HasRoomFor}
use Rattle.ss_journal.proofs.Common.{IfStaged, IsBounded, IsKept, IsSealed, IsShown, JournalState, closed_behind, gate_behind, shown, staged_bytes}
use Rattle.ss_journal.proofs.Common.{with_entries, Kind, Put}
use Rattle.std.specs.Prelude.{zero, suc}
use Rattle.ss_journal.proofs.CheckLemmas.{length-entry_form}
use Rattle.ss_journal.proofs.EntryLemmas.{length-entry_body}
use Rattle.ss_journal.proofs.HeaderLemmas.{is_born-parts, kind_of-same, piece-same}
use Rattle.ss_journal.proofs.MapLemmas.{slot_within}
use Rattle.ss_journal.proofs.RangeLemmas.{overwrite-end}

-- a closed gate has a place among the entries
pub gate_behind-fits : (end : ℕ) → end ≤ 544 * 64 → end + length (gate_behind end) ≤ 544 * 64
gate_behind-fits end few = elim (cases_lt end (544 * 64)) [
  | inl lt ↦
      let one : length (gate_behind end) ≡ 1 = ap (λ (list : List ℕ). length list) (cond-true (nat_lt end (544 * 64)) (0 ∷ []) [] (lt-ltb end (544 * 64) lt)) in
      omega (arith, one, lt)
  | inr past ↦
      let none : length (gate_behind end) ≡ 0 = ap (λ (list : List ℕ). length list)
      (cond-false (nat_lt end (544 * 64)) (0 ∷ []) [] (le-ltb end (544 * 64) past)) in
      omega (arith, none, few)
]

gate_behind-few : (end : ℕ) → length (gate_behind end) ≤ 1
gate_behind-few end = elim (cases_Bool (nat_lt end (544 * 64))) [
  | inl before ↦ let one = ap (λ (list : List ℕ). length list) (cond-true (nat_lt end (544 * 64)) (0 ∷ []) [] before) in omega (arith, one)
  | inr past ↦ let none = ap (λ (list : List ℕ). length list) (cond-false (nat_lt end (544 * 64)) (0 ∷ []) [] past) in omega (arith, none)
]

pub closed_behind-fits : (n : ℕ) (bytes : List ℕ) → 544 * n + length bytes ≤ 544 * 64 → 544 * n + length (closed_behind n bytes) ≤ 544 * 64
closed_behind-fits n bytes few =
    omega (arith, gate_behind-fits (544 * n + length bytes) few, length-append bytes (gate_behind (544 * n + length bytes)))

-- entries one after the other, and the gate behind them
closed_behind-append : (n next : ℕ) (bytes entry : List ℕ) → 544 * n + length bytes ≡ 544 * next
    → closed_behind n (bytes ++ entry) ≡ bytes ++ closed_behind next entry
closed_behind-append n next bytes entry there =
    let same : 544 * n + length (bytes ++ entry) ≡ 544 * next + length entry = omega (arith, there, length-append bytes entry) in
    rw (same, append_assoc)

-- the gate behind entries that end before entry m, and behind those that are the last
pub closed_behind-free : (n m : ℕ) (bytes : List ℕ) → 544 * n + length bytes ≡ 544 * m → m < 64 → bytes ++ 0 ∷ [] ≡ closed_behind n bytes
closed_behind-free n m bytes there free =
    ap (λ (list : List ℕ). bytes ++ list)
    (sym (cond-true (nat_lt (544 * n + length bytes) (544 * 64)) (0 ∷ []) []
    (lt-ltb (544 * n + length bytes) (544 * 64) (omega (arith, there, free)))))

pub closed_behind-full : (n m : ℕ) (bytes : List ℕ) → 544 * n + length bytes ≡ 544 * m → 64 ≤ m → bytes ≡ closed_behind n bytes
closed_behind-full n m bytes there full =
    sym (append-nil bytes)
    ∙ ap (λ (list : List ℕ). bytes ++ list)
    (sym (cond-false (nat_lt (544 * n + length bytes) (544 * 64)) (0 ∷ []) []
    (le-ltb (544 * n + length bytes) (544 * 64) (omega (arith, there, full)))))

-- entries come before the slots, and leave the length
module _ (n : ℕ) where
  pub length-with_entries : (bytes content : List ℕ) → 36864 ≤ length content → 544 * n + length bytes ≤ 544 * 64
      → length (with_entries n bytes content) ≡ length content
  length-with_entries [] content long few = refl
  length-with_entries (gate ∷ bytes) content long few =
      omega (
        arith,
        long,
        few,
        closed_behind-fits n (gate ∷ bytes) few,
        length-overwrite content (closed_behind n (gate ∷ bytes)) (entry_place n) (omega (arith, long, few)),
      )

  pub beside-with_entries : (bytes content : List ℕ) → 36864 ≤ length content → 544 * n + length bytes ≤ 544 * 64 → (place : ℕ)
      → (place < entry_place n) ⊎ (36864 ≤ place) → slice_index (with_entries n bytes content) place ≡ slice_index content place
  beside-with_entries [] content long few place out = refl
  beside-with_entries (gate ∷ bytes) content long few place (inl below) =
      get_or-overwrite_outside content (closed_behind n (gate ∷ bytes)) (entry_place n) (omega (arith, long, few)) place (inl below)
  beside-with_entries (gate ∷ bytes) content long few place (inr from) =
      get_or-overwrite_outside content (closed_behind n (gate ∷ bytes)) (entry_place n) (omega (arith, long, few)) place
      (inr (omega (arith, from, closed_behind-fits n (gate ∷ bytes) few)))

  pub kind-with_entries : (bytes content : List ℕ) → 36864 ≤ length content → 544 * n + length bytes ≤ 544 * 64
      → kind_of (with_entries n bytes content) ≡ kind_of content
  kind-with_entries bytes content long few =
      kind_of-same content (with_entries n bytes content) (omega (arith, long)) (omega (arith, long, length-with_entries bytes content long few))
      (λ place low high. beside-with_entries bytes content long few place (inl (omega (arith, high))))

  -- one entry more is written after them
  pub with_entries-more : (next gate : ℕ) (bytes entry content : List ℕ) → entry_place n ≤ length content → 544 * n + length bytes ≡ 544 * next
      → with_entries n (bytes ++ gate ∷ entry) content ≡ overwrite (with_entries n bytes content) (entry_place next) (closed_behind next (gate ∷ entry))
  with_entries-more next gate [] entry content within there =
      let same : n ≡ next = omega (arith, there) in
      ap (λ (k : ℕ). overwrite content (entry_place k) (closed_behind k (gate ∷ entry))) same
  with_entries-more next gate (first ∷ bytes) entry content within there =
      let end = gate_behind (544 * n + length (first ∷ bytes)) in
      ap (overwrite content (entry_place n)) (closed_behind-append n next (first ∷ bytes) (gate ∷ entry) there)
      ∙ sym (overwrite-end content (first ∷ bytes) end (closed_behind next (gate ∷ entry)) (entry_place n) (entry_place next) within (omega (arith, there))
      (omega (arith, gate_behind-few (544 * n + length (first ∷ bytes)))))

pub IfStaged-from : (staged : List Put) {P : Type 0} → P → IfStaged staged P
IfStaged-from [] is = tt
IfStaged-from (put ∷ puts) is = is

-- what is staged is written from its entry on
pub with_entries-some : (n : ℕ) (bytes content : List ℕ) → 0 < length bytes
    → with_entries n bytes content ≡ overwrite content (entry_place n) (closed_behind n bytes)
with_entries-some n [] content some = absurd (omega (arith, some))
with_entries-some n (gate ∷ bytes) content some = refl

-- bytes with an open gate
pub open-bytes : (bytes : List ℕ) → 0 < length bytes → slice_index bytes 0 ≡ 165 → bytes ≡ 165 ∷ drop 1 bytes
open-bytes [] some gate = absurd (omega (arith, some))
open-bytes (first ∷ rest) some gate = ap (λ (byte : ℕ). byte ∷ rest) gate

-- entries of a group have their length
pub length-group_bytes : (kind : Kind) (n k : ℕ) (puts : List Put) → FillSlots puts → length (group_bytes kind n k puts) ≡ 544 * k
length-group_bytes kind n zero puts whole = refl
length-group_bytes kind n (suc k) puts whole =
    let rest = drop (4 * k) puts in
    let few : length (part k puts) ≤ 4 = omega (arith, length-take 4 rest) in
    let filled : FillSlots (part k puts) = All-take (λ (put : Put). length put.bytes ≡ 128) 4 rest
    (All-drop (λ (put : Put). length put.bytes ≡ 128) (4 * k) puts whole) in
    omega (
      arith,
      length-group_bytes kind n k puts whole,
      length-append (group_bytes kind n k puts) (open_entry kind (n + k) (part k puts)),
      length-entry_form kind (n + k) (165 ∷ entry_body (part k puts)),
      length-entry_body (part k puts) filled few,
    )

-- a formatted content shows a formatted one
born-group : (kind : Kind) (n : ℕ) (puts : List Put) (content : List ℕ) → IfStaged puts (HasRoomFor n puts content)
    → IsTrue (is_born (with_entries n (group_bytes kind n (entry_count (length puts)) puts) content)) → IsTrue (is_born content)
born-group kind n [] content before born = born
born-group kind n (put ∷ puts) content before born = before.ends.born

module _ (journal : JournalState) (content : List ℕ) where
  -- where nothing is staged a journal shows the content
  pub shown-sealed : IsSealed journal → shown journal content ≡ content
  shown-sealed sealed =
      ap (λ (puts : List Put). with_entries journal.sealed (group_bytes journal.kind journal.sealed (entry_count (length puts)) puts) content) sealed

  pub IsShown-sealed : IsSealed journal → IsKept journal content → IsShown journal content
  IsShown-sealed sealed kept = rw shown-sealed at kept.shown

  pub IsKept-sealed : IsSealed journal → IsShown journal content → IsKept journal content
  IsKept-sealed sealed is = record {
    shown = rw shown-sealed is;
    before = rw sealed tt;
  }

  -- the slots of what it shows are those of the content
  module _ (bounded : IsBounded journal) (kept : IsKept journal content) (born : IsTrue (is_born (shown journal content))) where
    few : 544 * journal.sealed + length (staged_bytes journal) ≤ 544 * 64
    few = omega (
      arith,
      bounded.number,
      bounded.in_use,
      length-group_bytes journal.kind journal.sealed (entry_count (length journal.staged)) journal.staged bounded.whole,
    )

    born-content : IsTrue (is_born content)
    born-content = born-group journal.kind journal.sealed journal.staged content kept.before born

    long : 36864 ≤ length content
    long = (is_born-parts content born-content).0

    pub length-shown : length (shown journal content) ≡ length content
    length-shown = length-with_entries journal.sealed (staged_bytes journal) content long few

    pub slot_at-shown : (slot : ℕ) → slot < slots_in (length (shown journal content))
        → (slot < slots_in (length content)) × (slot_at content slot ≡ slot_at (shown journal content) slot)
    slot_at-shown slot lt =
        let lies : slot < slots_in (length content) = rw length-shown at lt in (
          lies,
          sym (piece-same content (shown journal content) (slot_place slot) 128 (slot_within (length content) slot lies)
              (slot_within (length (shown journal content)) slot lt)
              (λ place low high. beside-with_entries journal.sealed (staged_bytes journal) content long few place (inr (omega (arith, low))))),
        )
