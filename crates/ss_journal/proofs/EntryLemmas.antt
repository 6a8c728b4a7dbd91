-- How an entry is judged, and how it is spelled.
use Rattle.ss_journal.proofs.Common.{IsFalse, IsTrue, List, [], ap, arith, drop, get_or, length, refl, replicate, suc, sym, take, true, zero, ℕ, ◌&&◌}
use Rattle.ss_journal.proofs.Common.{◌*◌, ◌++◌, ◌+◌, ◌-◌, ◌<◌, ◌==◌, ◌^◌, ◌∙◌, ◌∷◌, ◌≡◌, ◌≤◌, zero-add, nat_tests, and_from, and_parts, le-leb, leb-true}
use Rattle.ss_journal.proofs.Common.{flat_map-append, All-get_or, All-head, All-map, All-tail, length-map-range_with_len, append-nil, append_assoc, drop-drop}
use Rattle.ss_journal.proofs.Common.{drop-replicate, drop_at, length-append, length-drop, length-replicate, length-take, take-append-drop, take_all, take_at}
use Rattle.ss_journal.proofs.Common.{take_more, range_with_len, All, flat_map, put_at, put_bytes, FillSlots, IsTxn, slots_fit, slots_rise_from, Put}
use Rattle.std.proofs.lemmas.Bool.{lt-leb}
use Rattle.std.proofs.lemmas.List.FromFn.{fill_by_all, get_or-range_with_len, length-range_with_len}
use Rattle.std.specs.List.{list_all}
use Rattle.ss_fields.proofs.FieldLemmas.{length-number_bytes, number_at-written}
use Rattle.ss_fields.specs.Fields.{number_at, number_bytes}
use Rattle.ss_journal.specs.Entries.{put_count, entry_body, is_good, puts_of}
use Rattle.ss_journal.proofs.PutLemmas.{AreSlots-rise, slots_fit-again}

-- what is true of a sound entry
pub record IsSoundEntry (entry : List ℕ) (extent : ℕ) : Type 0 where
  pub some : 1 ≤ put_count entry
  pub few : put_count entry ≤ 4
  pub rise : IsTrue (slots_rise_from 0 (puts_of entry))
  pub fit : IsTrue (slots_fit (puts_of entry) extent)

pub IsSoundEntry-good : (entry : List ℕ) (extent : ℕ) → IsTrue (is_good entry extent) → IsSoundEntry entry extent
unfolding is_good
IsSoundEntry-good entry extent good =
    let outer = and_parts _ _ good in
    let fits = and_parts _ _ outer.0 in
    let rises = and_parts _ _ fits.0 in
    let counts = and_parts _ _ rises.0 in
    record { some = leb-true 1 (put_count entry) counts.0; few = leb-true (put_count entry) 4 counts.1; rise = rises.1; fit = fits.1 }

pub length-puts_of : (entry : List ℕ) → length (puts_of entry) ≡ put_count entry
unfolding puts_of
length-puts_of entry = length-map-range_with_len (put_at entry) 0 (put_count entry)

-- the puts of a sound entry may be committed over the extent
pub IsTxn-good : (entry : List ℕ) (extent : ℕ) → IsTrue (is_good entry extent) → IsTxn (puts_of entry) × IsTrue (slots_fit (puts_of entry) extent)
IsTxn-good entry extent good =
    let sound = IsSoundEntry-good entry extent good in
    let long = length-puts_of entry in
    (record { some = omega (arith, sound.some); few = omega (arith, sound.few); rise = sound.rise }, sound.fit)

-- a sound entry has a put
pub is_good-some : (entry : List ℕ) (extent : ℕ) → IsTrue (is_good entry extent) → (rest : List Put) → puts_of entry ++ rest ≡ [] → ⊥
is_good-some entry extent good rest none =
    let some = (IsSoundEntry-good entry extent good).some in
    let long = length-puts_of entry in
    let empty : length (puts_of entry ++ rest) ≡ 0 = ap length none in
    omega (arith, some, long, empty, length-append (puts_of entry) rest)

pub is_good-again : (entry : List ℕ) (old new : ℕ) → IsTrue (is_good entry old) → old ≤ new
    → IsTrue (is_good entry new) × IsTrue (slots_fit (puts_of entry) old)
unfolding is_good
is_good-again entry old new good le =
    let zero = and_parts _ _ good in
    let fits = and_parts _ _ zero.0 in
    (and_from _ _ (and_from _ _ fits.0 (slots_fit-again (puts_of entry) old new fits.1 le)) zero.1, fits.1)

-- an entry of so few puts is judged by them, and by what stands after them
pub is_good-few : (entry : List ℕ) (extent : ℕ) → 1 ≤ put_count entry → put_count entry ≤ 4
    → is_good entry extent ≡ (slots_rise_from 0 (puts_of entry) && slots_fit (puts_of entry) extent && list_all (λ byte. byte == 0)
    (drop (2 + 132 * put_count entry) entry))
unfolding is_good
is_good-few entry extent some few = rw (le-leb 1 (put_count entry) some, le-leb (put_count entry) 4 few) refl

pub is_good-none : (entry : List ℕ) (extent : ℕ) → put_count entry < 1 → IsFalse (is_good entry extent)
unfolding is_good
is_good-none entry extent none = rw (lt-leb 1 (put_count entry) none) refl

pub is_good-many : (entry : List ℕ) (extent : ℕ) → 4 < put_count entry → IsFalse (is_good entry extent)
unfolding is_good
is_good-many entry extent many = grind (arith, nat_tests)

-- what is true of each number below n
pub All-range_with_len : (P : ℕ → Type 0) (n : ℕ) → ((k : ℕ) → k < n → P k) → All P (range_with_len 0 n)
All-range_with_len P n each k d lt =
    let below : k < n = omega (arith, length-range_with_len 0 n) in
    rw (get_or-range_with_len 0 n k d below ∙ zero-add k) (each k below)

-- the puts of a whole entry are whole
put_at-whole : (entry : List ℕ) (k : ℕ) → length entry ≡ 544 → k < 4 → length (take 128 (drop (6 + 132 * k) entry)) ≡ 128
put_at-whole entry k long lt = simp (length-take, length-drop) (omega arith)

pub FillSlots-puts_of : (entry : List ℕ) → length entry ≡ 544 → put_count entry ≤ 4 → FillSlots (puts_of entry)
unfolding puts_of
FillSlots-puts_of entry long few =
    All-map (λ (put : Put). length put.bytes ≡ 128) (put_at entry) (range_with_len 0 (put_count entry))
    (All-range_with_len (λ (k : ℕ). length (take 128 (drop (6 + 132 * k) entry)) ≡ 128) (put_count entry)
    (λ k lt. put_at-whole entry k long (omega (arith, lt, few))))

-- a number reads back from where its bytes stand
number_at-dropped : (bytes rest : List ℕ) (at x : ℕ) → x < 2 ^ 32 → drop at bytes ≡ number_bytes 4 x ++ rest → number_at 4 bytes at ≡ x
number_at-dropped bytes rest at x fits there =
    let after : drop (at + 4) bytes ≡ rest = sym (drop-drop 4 at bytes) ∙ ap (drop 4) there ∙ drop_at (number_bytes 4 x) rest 4 (length-number_bytes 4 x) in
    let whole : take at bytes ++ number_bytes 4 x ++ drop (at + 4) bytes ≡ bytes =
    append_assoc (take at bytes) (number_bytes 4 x) (drop (at + 4) bytes) ∙ ap (λ (list : List ℕ). take at bytes ++ (number_bytes 4 x ++ list)) after
    ∙ ap (λ (list : List ℕ). take at bytes ++ list) (sym there) ∙ take-append-drop at bytes in
    let inside : at + 4 ≤ length bytes = omega (arith, ap length there, length-drop at bytes, length-append (number_bytes 4 x) rest, length-number_bytes 4 x) in
    ap (λ (list : List ℕ). number_at 4 list at) (sym whole) ∙ number_at-written 4 at x bytes inside (omega (arith, fits))

length-put_bytes : (put : Put) → length put.bytes ≡ 128 → length (put_bytes put) ≡ 132
length-put_bytes put whole = omega (arith, length-append (number_bytes 4 put.slot) put.bytes, length-number_bytes 4 put.slot, whole)

pub length-puts_bytes : (puts : List Put) → FillSlots puts → length (flat_map put_bytes puts) ≡ 132 * length puts
length-puts_bytes [] whole = refl
length-puts_bytes (put ∷ puts) whole =
    let first = length-put_bytes put (All-head (λ (p : Put). length p.bytes ≡ 128) put puts whole) in
    let rest = length-puts_bytes puts (All-tail (λ (p : Put). length p.bytes ≡ 128) put puts whole) in
    omega (arith, first, rest, length-append (put_bytes put) (flat_map put_bytes puts))

-- where a put stands among the bytes of all
drop-puts_bytes : (k : ℕ) (puts : List Put) (end : List ℕ) (d : Put) → FillSlots puts → k < length puts
    → (rest : List ℕ) × (drop (132 * k) (flat_map put_bytes puts ++ end) ≡ put_bytes (get_or puts k d) ++ rest)
drop-puts_bytes k [] end d whole lt = absurd (omega (arith, lt))
drop-puts_bytes zero (put ∷ puts) end d whole lt = (flat_map put_bytes puts ++ end, append_assoc (put_bytes put) (flat_map put_bytes puts) end)
drop-puts_bytes (suc k) (put ∷ puts) end d whole lt =
    let first = length-put_bytes put (All-head (λ (p : Put). length p.bytes ≡ 128) put puts whole) in
    let rest = drop-puts_bytes k puts end d (All-tail (λ (p : Put). length p.bytes ≡ 128) put puts whole) (omega (arith, lt)) in
    let step : 132 * suc k ≡ 132 + 132 * k = omega arith in (
      rest.0,
      ap (λ (n : ℕ). drop n (put_bytes put ++ flat_map put_bytes puts ++ end)) step
          ∙ sym (drop-drop (132 * k) 132 (put_bytes put ++ flat_map put_bytes puts ++ end))
          ∙ ap (drop (132 * k)) (rw (append_assoc, drop_at))
          ∙ rest.1,
    )

same_put : (put : Put) (slot : ℕ) (bytes : List ℕ) → slot ≡ put.slot → bytes ≡ put.bytes → put ≡ record { slot = slot; bytes = bytes }
same_put put slot bytes same also = rw (same, also) refl

module _ (puts : List Put) (gate : ℕ) (whole : FillSlots puts) (txn : IsTxn puts) where
  abbrev end : List ℕ
  end = replicate (542 - 132 * length puts) 0

  abbrev entry : List ℕ
  entry = gate ∷ length puts ∷ flat_map put_bytes puts ++ end

  none : Put
  none = record { slot = 0; bytes = [] }

  put_at-entry : (k : ℕ) → k < length puts → get_or puts k none ≡ put_at entry k
  put_at-entry k lt =
      let put = get_or puts k none in
      let there = drop-puts_bytes k puts end none whole lt in
      let from : drop (2 + 132 * k) entry ≡ put_bytes put ++ there.0 = sym (drop-drop (132 * k) 2 entry) ∙ there.1 in
      let split : drop (2 + 132 * k) entry ≡ number_bytes 4 put.slot ++ (put.bytes ++ there.0) = rw (from, append_assoc) in
      let place : 6 + 132 * k ≡ 2 + 132 * k + 4 = omega arith in
      let after : drop (6 + 132 * k) entry ≡ put.bytes ++ there.0 =
      rw (place, ← drop-drop 4 (2 + 132 * k) entry, split, drop_at (number_bytes 4 put.slot) (put.bytes ++ there.0) 4 (length-number_bytes 4 put.slot)) in
      let below = All-get_or (λ (p : Put). p.slot < 2 ^ 20) puts k none lt (AreSlots-rise 0 puts txn.rise) in
      let full = All-get_or (λ (p : Put). length p.bytes ≡ 128) puts k none lt whole in
      same_put put (number_at 4 entry (2 + 132 * k)) (take 128 (drop (6 + 132 * k) entry))
      (number_at-dropped entry (put.bytes ++ there.0) (2 + 132 * k) put.slot (omega (arith, below)) split)
      (ap (take 128) after ∙ take_at put.bytes there.0 128 full)

  -- an entry that is spelled from puts has these puts, and is sound where they fit
  pub puts_of-body : puts_of (gate ∷ entry_body puts) ≡ puts
  unfolding puts_of entry_body
  puts_of-body = sym (fill_by_all (put_at entry) puts (length puts) none refl put_at-entry)

  rest-entry : drop (2 + 132 * length puts) entry ≡ end
  rest-entry = sym (drop-drop (132 * length puts) 2 entry) ∙ drop_at (flat_map put_bytes puts) end (132 * length puts) (length-puts_bytes puts whole)

all_zeros : (n : ℕ) → list_all (λ byte. byte == 0) (replicate n 0) ≡ true
all_zeros zero = refl
all_zeros (suc n) = all_zeros n

pub is_good-body : (puts : List Put) (gate extent : ℕ) → FillSlots puts → IsTxn puts → IsTrue (slots_fit puts extent)
    → IsTrue (is_good (gate ∷ entry_body puts) extent)
unfolding is_good entry_body
is_good-body puts gate extent whole txn fit =
    let same = sym (puts_of-body puts gate whole txn) in
    let zeros = ap (list_all (λ byte. byte == 0)) (rest-entry puts gate whole txn) ∙ all_zeros (542 - 132 * length puts) in
    and_from _ _ (and_from _ _ (and_from _ _ (and_from _ _ (le-leb 1 (length puts) txn.some) (le-leb (length puts) 4 txn.few))
    (rw same at txn.rise)) (rw same at fit)) zeros

pub length-entry_body : (puts : List Put) → FillSlots puts → length puts ≤ 4 → length (entry_body puts) ≡ 543
unfolding entry_body
length-entry_body puts whole few =
    omega (
      arith,
      few,
      length-append (flat_map put_bytes puts) (replicate (542 - 132 * length puts) 0),
      length-puts_bytes puts whole,
      length-replicate {A = ℕ}
          (542 - 132 * length puts) 0,
    )

-- one put more
pub entry-more : (puts : List Put) (k : ℕ) (d : Put) (old : List ℕ) → k < length puts → length puts ≤ 4 → FillSlots (take k puts)
    → old ≡ 0 ∷ length puts ∷ flat_map put_bytes (take k puts) ++ replicate (542 - 132 * k) 0
    → take (2 + 132 * k) old ++ put_bytes (get_or puts k d) ++ drop (2 + 132 * (k + 1)) old ≡ 0 ∷ length puts ∷ flat_map put_bytes (take (k + 1) puts) ++
    replicate (542 - 132 * (k + 1)) 0
entry-more puts k d old lt few whole is =
    let front : List ℕ = 0 ∷ length puts ∷ flat_map put_bytes (take k puts) in
    let put = get_or puts k d in
    let zeros : List ℕ = replicate (542 - 132 * k) 0 in
    let long : length front ≡ 2 + 132 * k = omega (arith, length-puts_bytes (take k puts) whole, length-take k puts, lt) in
    let start : take (2 + 132 * k) old ≡ front = ap (take (2 + 132 * k)) is ∙ take_at front zeros (2 + 132 * k) long in
    let place : 2 + 132 * (k + 1) ≡ 2 + 132 * k + 132 = omega arith in
    let less : 542 - 132 * k - 132 ≡ 542 - 132 * (k + 1) = omega arith in
    let rest : drop (2 + 132 * (k + 1)) old ≡ replicate (542 - 132 * (k + 1)) 0 =
    rw (place, ← drop-drop, is, drop_at, drop-replicate, less) in
    let puts_bytes : flat_map put_bytes (take (k + 1) puts) ≡ flat_map put_bytes (take k puts) ++ put_bytes put =
    rw (take_more puts k d lt, flat_map-append put_bytes (take k puts) (put ∷ []), append-nil (put_bytes put)) in
    let tail : List ℕ = drop (2 + 132 * (k + 1)) old in
    let zeros_then : List ℕ = replicate (542 - 132 * (k + 1)) 0 in
    let first : take (2 + 132 * k) old ++ put_bytes put ++ tail ≡ front ++ put_bytes put ++ tail = ap (λ (list : List ℕ). list ++ put_bytes put ++ tail)
    start in
    let second : front ++ put_bytes put ++ tail ≡ front ++ put_bytes put ++ zeros_then = ap (λ (list : List ℕ). front ++ put_bytes put ++ list) rest in
    rw (first, second, ← puts_bytes)

pub entry-all : (puts : List Put) (entry : List ℕ)
    → entry ≡ 0 ∷ length puts ∷ flat_map put_bytes (take (length puts) puts) ++ replicate (542 - 132 * length puts) 0 → entry ≡ 0 ∷ entry_body puts
unfolding entry_body
entry-all puts entry is = rw (is, take_all (length puts) puts (omega arith))
