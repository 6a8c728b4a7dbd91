-- The entries of a file, and its open prefix.
use Rattle.ss_journal.proofs.Common.{inl, inr, IsFalse, IsTrue, List, [], ap, arith, drop, length, map, refl, suc, zero, ℕ, ◌+◌, ◌<◌, ◌∙◌, ◌∷◌}
use Rattle.ss_journal.proofs.Common.{◌≡◌, ◌≤◌, zero-add, cases_Bool, cases_eq, cond-false, cond-true, All-cons, All-head, All-map, All-nil, All-tail}
use Rattle.ss_journal.proofs.Common.{length-map-range_with_len, drop_more, get_or-drop, get_or-take, length-drop, length-take, range_with_len, All}
use Rattle.ss_journal.proofs.Common.{slice_index, open_prefix, entry_in, entry_bytes, kind_of, IsClosed, entry_place, is_open, opens}
use Rattle.std.proofs.lemmas.Bool.{cond_both}
use Rattle.std.proofs.lemmas.List.FromFn.{get_or-map-range_with_len}
use Rattle.ss_journal.specs.Entries.{entries}
use Rattle.ss_journal.proofs.CheckLemmas.{gate-entry_form, length-entry_form}
use Rattle.ss_journal.proofs.EntryLemmas.{All-range_with_len}
use Rattle.ss_journal.proofs.HeaderLemmas.{piece-same}

-- the same function at each place of a range
pub map-range-same : (f g : ℕ → List ℕ) (from n : ℕ) → ((k : ℕ) → from ≤ k → k < from + n → f k ≡ g k)
    → map f (range_with_len from n) ≡ map g (range_with_len from n)
map-range-same f g from zero same = refl
map-range-same f g from (suc n) same =
    let first = same from (omega arith) (omega arith) in
    let rest = map-range-same f g (from + 1) n (λ k low high. same k (omega (arith, low)) (omega (arith, high))) in
    rw (first, rest) refl

-- an entry with the same bytes in a file of the same kind says the same
pub entry_in-same : (old new : List ℕ) (n : ℕ) → kind_of new ≡ kind_of old → entry_bytes new n ≡ entry_bytes old n → entry_in new n ≡ entry_in old n
entry_in-same old new n kind bytes = rw (kind, bytes)

pub entries-same : (old new : List ℕ) → kind_of new ≡ kind_of old → 36864 ≤ length old → 36864 ≤ length new
    → ((place : ℕ) → 512 ≤ place → place < 36864 → slice_index new place ≡ slice_index old place) → entries new ≡ entries old
unfolding entries
entries-same old new kind long also same =
    map-range-same (entry_in new) (entry_in old) 0 64 (λ k low high. entry_in-same old new k kind (piece-same old new (entry_place k) 544
    (omega (arith, high, long)) (omega (arith, high, also)) (λ place from to. same place (omega (arith, from)) (omega (arith, high, to)))))

-- the entries after the first
abbrev pub other_entries : List ℕ → List (List ℕ)
other_entries image = map (entry_in image) (range_with_len 1 63)

entries-first : (image : List ℕ) → entries image ≡ entry_in image 0 ∷ other_entries image
unfolding entries
entries-first image = refl

-- the gate of an entry is its first place
pub gate-entry_in : (image : List ℕ) (n : ℕ) → slice_index (entry_in image n) 0 ≡ slice_index image (entry_place n)
gate-entry_in image n = gate-entry_form (kind_of image) n (entry_bytes image n) ∙ get_or-take 544 (drop (entry_place n) image) 0 0 (omega arith) ∙
    get_or-drop (entry_place n) image 0 0
    ∙ ap (slice_index image) (let none : entry_place n + 0 ≡ entry_place n = omega arith in none)

pub open_prefix-closed : (image : List ℕ) → IsClosed 0 image → open_prefix (entries image) ≡ []
open_prefix-closed image closed =
    let gate : IsFalse (is_open (entry_in image 0)) = rw gate-entry_in closed in
    rw entries-first (cond-false _ _ _ gate)

pub open_prefix-open : (image : List ℕ) → IsTrue (opens (slice_index image 512))
    → open_prefix (entries image) ≡ entry_in image 0 ∷ open_prefix (other_entries image)
open_prefix-open image opened =
    let gate : IsTrue (is_open (entry_in image 0)) = rw gate-entry_in opened in
    rw entries-first (cond-true _ _ _ gate)

-- the open prefix of a run of entries: its first n, which are open
pub record IsPrefix (f : ℕ → List ℕ) (from m n : ℕ) : Type 0 where
  pub prefix : open_prefix (map f (range_with_len from m)) ≡ map f (range_with_len from n)
  pub opened : (k : ℕ) → from ≤ k → k < from + n → IsTrue (is_open (f k))

pub IsPrefix-length : (f : ℕ → List ℕ) (from m n : ℕ) → n ≡ length (open_prefix (map f (range_with_len from m))) → IsPrefix f from m n
IsPrefix-length f from zero zero is = record { prefix = refl; opened = λ k low high. absurd (omega (arith, low, high)) }
IsPrefix-length f from zero (suc n) is = absurd (omega (arith, is))
IsPrefix-length f from (suc m) zero is = elim (cases_Bool (is_open (f from))) [
  | inl opened ↦
      let step : open_prefix (map f (range_with_len from (suc m))) ≡ f from ∷ open_prefix (map f (range_with_len (from + 1) m)) = cond-true _ _ _ opened in
      absurd (omega (arith, is, ap length step))
  | inr closed ↦ record { prefix = cond-false _ _ _ closed; opened = λ k low high. absurd (omega (arith, low, high)) }
]
IsPrefix-length f from (suc m) (suc n) is = elim (cases_Bool (is_open (f from))) [
  | inl opened ↦
      let step : open_prefix (map f (range_with_len from (suc m))) ≡ f from ∷ open_prefix (map f (range_with_len (from + 1) m)) = cond-true _ _ _ opened in
      let rest = IsPrefix-length f (from + 1) m n (omega (arith, is, ap length step)) in
      record {
        prefix = rw (step, rest.prefix);
        opened = λ k low high. elim (cases_eq k from) [
          | inl same ↦ rw same opened
          | inr other ↦ rest.opened k (omega (arith, low, other)) (omega (arith, high))
        ];
      }
  | inr closed ↦
      let none : open_prefix (map f (range_with_len from (suc m))) ≡ [] = cond-false _ _ _ closed in
      absurd (omega (arith, is, ap length none))
]

-- so many open entries, and then a closed one or the end
pub open_prefix-run : (f : ℕ → List ℕ) (from m n : ℕ) → n ≤ m → ((k : ℕ) → from ≤ k → k < from + n → IsTrue (is_open (f k)))
    → (n < m → IsFalse (is_open (f (from + n)))) → open_prefix (map f (range_with_len from m)) ≡ map f (range_with_len from n)
open_prefix-run f from zero zero le opened closed = refl
open_prefix-run f from zero (suc n) le opened closed = absurd (omega (arith, le))
open_prefix-run f from (suc m) zero le opened closed =
    let here : from + 0 ≡ from = omega arith in
    cond-false _ _ _ (rw here at (closed (omega arith)))
open_prefix-run f from (suc m) (suc n) le opened closed =
    let there : from + suc n ≡ from + 1 + n = omega arith in
    rw (cond-true _ _ _ (opened from (omega arith) (omega arith)))
    (rw (open_prefix-run f (from + 1) m n (omega (arith, le)) (λ k low high. opened k (omega (arith, low)) (omega (arith, high)))
    (λ lt. rw there at (closed (omega (arith, lt))))))

-- the same of the entries of a file
pub IsPrefix-entries : (image : List ℕ) (n : ℕ) → n ≡ length (open_prefix (entries image)) → IsPrefix (entry_in image) 0 64 n
unfolding entries
IsPrefix-entries image n is = IsPrefix-length (entry_in image) 0 64 n is

pub open_prefix-is : (image : List ℕ) (n : ℕ) → IsPrefix (entry_in image) 0 64 n → open_prefix (entries image) ≡ map (entry_in image) (range_with_len 0 n)
unfolding entries
open_prefix-is image n is = is.prefix

pub open_prefix-entries : (image : List ℕ) (n : ℕ) → n ≤ 64 → ((k : ℕ) → k < n → IsTrue (is_open (entry_in image k)))
    → (n < 64 → IsFalse (is_open (entry_in image n))) → open_prefix (entries image) ≡ map (entry_in image) (range_with_len 0 n)
unfolding entries
open_prefix-entries image n le opened closed =
    open_prefix-run (entry_in image) 0 64 n le (λ k low high. opened k (omega (arith, high)))
    (λ lt. let here : n ≡ 0 + n = omega arith in rw here at (closed lt))

-- the reader's step: the entries from n on, over what those before it gave
pub open_prefix-drop : (image : List ℕ) (n : ℕ) → n < 64 → drop n (entries image) ≡ entry_in image n ∷ drop (n + 1) (entries image)
unfolding entries
open_prefix-drop image n lt =
    let long = length-map-range_with_len (entry_in image) 0 64 in
    rw (drop_more (entries image) n [] (omega (arith, long)), get_or-map-range_with_len (entry_in image) 0 64 n n [] lt (zero-add n))

pub open_prefix-long : (list : List (List ℕ)) → All (λ entry. length entry ≡ 544) list → All (λ entry. length entry ≡ 544) (open_prefix list)
open_prefix-long [] long = long
open_prefix-long (entry ∷ rest) long =
    let P = λ (e : List ℕ). length e ≡ 544 in
    cond_both (is_open entry) (entry ∷ open_prefix rest) [] (λ l. All P l)
    (λ opened. All-cons P entry (open_prefix rest) (All-head P entry rest long) (open_prefix-long rest (All-tail P entry rest long))) (λ closed. All-nil P)

entry_in-whole : (image : List ℕ) (n : ℕ) → 36864 ≤ length image → n < 64 → length (entry_in image n) ≡ 544
entry_in-whole image n long lt =
    let whole : length (entry_bytes image n) ≡ 544 = simp (length-take, length-drop) (omega arith) in
    length-entry_form (kind_of image) n (entry_bytes image n) ∙ whole

-- the entries of a file that is long enough are whole
pub entries-long : (image : List ℕ) → 36864 ≤ length image → All (λ entry. length entry ≡ 544) (entries image)
unfolding entries
entries-long image long = All-map (λ (e : List ℕ). length e ≡ 544) (entry_in image) (range_with_len 0 64)
    (All-range_with_len (λ (n : ℕ). length (entry_in image n) ≡ 544) 64 (λ n lt. entry_in-whole image n long lt))
