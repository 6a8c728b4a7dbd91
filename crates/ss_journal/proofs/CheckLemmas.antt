-- The form that the file has of records and entries: taken twice it leaves them, and it leaves all but their checks.
use Rattle.ss_journal.proofs.Common.{◌≡◌, ◌∙◌, refl, sym, ap, ℕ, zero, suc, ◌+◌, ◌-◌, ◌<◌, ◌≤◌, List, [], ◌∷◌, length, take, drop, get_or, arith, inl}
use Rattle.ss_journal.proofs.Common.{inr, slice_index, set, cases_eq, cases_lt, cond-false, cond-true, eq-eqb, ne_eqb, append-nil, drop_all, drop_at}
use Rattle.ss_journal.proofs.Common.{get_or-drop, get_or-take, length-append, length-drop, length-take, length-take-le, take-append-drop, take_all, take_at}
use Rattle.ss_journal.proofs.Common.{check_of, masked_from, Kind, Plain, Checked}
use Rattle.std.specs.Prelude.{bit_xor, replicate}
use Rattle.std.specs.Int.Bits.{xor_assoc, xor_self, xor_zero_r}
use Rattle.std.proofs.lemmas.List.{set-append_right}
use Rattle.ss_journal.specs.Checks.{entry_form, masked, slot_form}

masked-none : (mask : List ℕ) → masked [] mask ≡ []
masked-none [] = refl
masked-none (m ∷ mask) = refl

length-masked : (bytes mask : List ℕ) → length (masked bytes mask) ≡ length bytes
length-masked bytes [] = refl
length-masked [] (m ∷ mask) = refl
length-masked (byte ∷ bytes) (m ∷ mask) = ap suc (length-masked bytes mask)

masked-twice : (bytes mask : List ℕ) → masked (masked bytes mask) mask ≡ bytes
masked-twice bytes [] = refl
masked-twice [] (m ∷ mask) = refl
masked-twice (byte ∷ bytes) (m ∷ mask) =
    let first : bit_xor (bit_xor byte m) m ≡ byte = simp (xor_assoc, xor_self, xor_zero_r) in
    rw (first, masked-twice bytes mask) refl

-- bytes that end before the place stay
masked_from-past : (place : ℕ) (mask bytes : List ℕ) → length bytes ≤ place → masked_from place mask bytes ≡ bytes
masked_from-past place mask bytes past = rw (drop_all, masked-none, append-nil, take_all)

pub length-masked_from : (place : ℕ) (mask bytes : List ℕ) → length (masked_from place mask bytes) ≡ length bytes
length-masked_from place mask bytes =
    omega (
      arith,
      length-append (take place bytes) (masked (drop place bytes) mask),
      length-masked (drop place bytes) mask,
      length-take place bytes,
      length-drop place bytes,
    )

-- and so do those before it
pub take-masked_from : (place : ℕ) (mask bytes : List ℕ) → take place (masked_from place mask bytes) ≡ take place bytes
take-masked_from place mask bytes = elim (cases_lt place (length bytes)) [
  | inl within ↦ take_at (take place bytes) (masked (drop place bytes) mask) place (length-take-le place bytes (omega (arith, within)))
  | inr past ↦ ap (take place) (masked_from-past place mask bytes past)
]

pub get_or-masked_from : (place : ℕ) (mask bytes : List ℕ) (k d : ℕ) → k < place → get_or (masked_from place mask bytes) k d ≡ get_or bytes k d
get_or-masked_from place mask bytes k d below =
    rw (← get_or-take place (masked_from place mask bytes) k d below, take-masked_from place mask bytes, get_or-take place bytes k d below)

masked_from-twice : (place : ℕ) (mask bytes : List ℕ) → masked_from place mask (masked_from place mask bytes) ≡ bytes
masked_from-twice place mask bytes = elim (cases_lt place (length bytes)) [
  | inl within ↦
      let rest : drop place (masked_from place mask bytes) ≡ masked (drop place bytes) mask =
      drop_at (take place bytes) (masked (drop place bytes) mask) place (length-take-le place bytes (omega (arith, within))) in
      rw (take-masked_from, rest, masked-twice, take-append-drop)
  | inr past ↦ ap (masked_from place mask) (masked_from-past place mask bytes past) ∙ masked_from-past place mask bytes past
]

-- one byte of the mask more
masked-more : (bytes mask : List ℕ) (k : ℕ) → k < length mask → k < length bytes
    → set (masked bytes (take k mask)) k (bit_xor (get_or (masked bytes (take k mask)) k 0) (get_or mask k 0)) ≡ masked bytes (take (k + 1) mask)
masked-more bytes [] k few lt = absurd (omega (arith, few))
masked-more [] (m ∷ mask) k few lt = absurd (omega (arith, lt))
masked-more (byte ∷ bytes) (m ∷ mask) zero few lt = refl
masked-more (byte ∷ bytes) (m ∷ mask) (suc k) few lt =
    let step : suc k + 1 ≡ suc (k + 1) = omega arith in
    rw (masked-more bytes mask k (omega (arith, few)) (omega (arith, lt))) (sym (ap (λ (n : ℕ). masked (byte ∷ bytes) (take n (m ∷ mask))) step))

pub masked_from-more : (place : ℕ) (mask bytes : List ℕ) (k : ℕ) → k < length mask → place + k < length bytes
    → set (masked_from place (take k mask) bytes) (place + k)
    (bit_xor (get_or (masked_from place (take k mask) bytes) (place + k) 0) (get_or mask k 0)) ≡ masked_from place (take (k + 1) mask) bytes
masked_from-more place mask bytes k few lt =
    let rest = masked (drop place bytes) (take k mask) in
    let front : length (take place bytes) ≡ place = length-take-le place bytes (omega (arith, lt)) in
    let there : place + k - place ≡ k = omega arith in
    let byte : get_or (masked_from place (take k mask) bytes) (place + k) 0 ≡ get_or rest k 0 =
    rw (← get_or-drop, drop_at) in
    rw (byte, set-append_right (take place bytes) rest place (place + k) (bit_xor (get_or rest k 0) (get_or mask k 0)) front (omega arith), there)
    (rw (masked-more (drop place bytes) mask k few (omega (arith, lt, length-drop place bytes))))

pub masked_from-none : (place : ℕ) (mask bytes : List ℕ) → masked_from place (take 0 mask) bytes ≡ bytes
masked_from-none place mask bytes = take-append-drop place bytes

-- a slot that is free, and one that is live
pub slot_form-free : (slot : ℕ) (bytes : List ℕ) → slice_index bytes 0 ≡ 0 → slot_form Checked slot bytes ≡ bytes
unfolding slot_form
slot_form-free slot bytes free = cond-true _ _ _ (eq-eqb (slice_index bytes 0) 0 free)

pub slot_form-live : (slot : ℕ) (bytes : List ℕ) → (slice_index bytes 0 ≡ 0 → ⊥)
    → slot_form Checked slot bytes ≡ masked_from 124 (check_of slot (take 124 bytes)) bytes
unfolding slot_form
slot_form-live slot bytes live = cond-false _ _ _ (ne_eqb (slice_index bytes 0) 0 live)

pub slot_form-twice : (kind : Kind) (slot : ℕ) (bytes : List ℕ) → slot_form kind slot (slot_form kind slot bytes) ≡ bytes
unfolding slot_form
slot_form-twice Plain slot bytes = refl
slot_form-twice Checked slot bytes = elim (cases_eq (slice_index bytes 0) 0) [
  | inl free ↦ ap (slot_form Checked slot) (slot_form-free slot bytes free) ∙ slot_form-free slot bytes free
  | inr live ↦
      let mask = check_of slot (take 124 bytes) in
      let there = masked_from 124 mask bytes in
      let first : slice_index there 0 ≡ slice_index bytes 0 = get_or-masked_from 124 mask bytes 0 0 (omega arith) in
      ap (slot_form Checked slot) (slot_form-live slot bytes live)
      ∙ slot_form-live slot there (λ none. live (sym first ∙ none))
      ∙ ap (λ (front : List ℕ). masked_from 124 (check_of slot front) there) (take-masked_from 124 mask bytes)
      ∙ masked_from-twice 124 mask bytes
]

pub length-slot_form : (kind : Kind) (slot : ℕ) (bytes : List ℕ) → length (slot_form kind slot bytes) ≡ length bytes
unfolding slot_form
length-slot_form Plain slot bytes = refl
length-slot_form Checked slot bytes = elim (cases_eq (slice_index bytes 0) 0) [
  | inl free ↦ ap (λ (list : List ℕ). length list) (slot_form-free slot bytes free)
  | inr live ↦ rw (slot_form-live, length-masked_from)
]

pub slot_form-zeros : (kind : Kind) (slot : ℕ) → slot_form kind slot (replicate 128 0) ≡ replicate 128 0
unfolding slot_form
slot_form-zeros Plain slot = refl
slot_form-zeros Checked slot = slot_form-free slot (replicate 128 0) refl

pub entry_form-twice : (kind : Kind) (n : ℕ) (entry : List ℕ) → entry_form kind n (entry_form kind n entry) ≡ entry
unfolding entry_form
entry_form-twice Plain n entry = refl
entry_form-twice Checked n entry =
    let mask = check_of n (drop 1 (take 540 entry)) in
    ap (λ (front : List ℕ). masked_from 540 (check_of n (drop 1 front)) (masked_from 540 mask entry)) (take-masked_from 540 mask entry)
    ∙ masked_from-twice 540 mask entry

pub length-entry_form : (kind : Kind) (n : ℕ) (entry : List ℕ) → length (entry_form kind n entry) ≡ length entry
unfolding entry_form
length-entry_form Plain n entry = refl
length-entry_form Checked n entry = length-masked_from 540 (check_of n (drop 1 (take 540 entry))) entry

-- the gate stays
pub gate-entry_form : (kind : Kind) (n : ℕ) (entry : List ℕ) → slice_index (entry_form kind n entry) 0 ≡ slice_index entry 0
unfolding entry_form
gate-entry_form Plain n entry = refl
gate-entry_form Checked n entry = get_or-masked_from 540 (check_of n (drop 1 (take 540 entry))) entry 0 0 (omega arith)

-- an entry with a gate, in the form of a kind
pub entry_form-gate : (kind : Kind) (n gate : ℕ) (body : List ℕ) → entry_form kind n (gate ∷ body) ≡ gate ∷ drop 1 (entry_form kind n (gate ∷ body))
unfolding entry_form
entry_form-gate Plain n gate body = refl
entry_form-gate Checked n gate body = refl
