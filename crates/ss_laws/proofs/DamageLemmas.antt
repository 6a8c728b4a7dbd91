-- What is read from damaged bytes: no record where they don't end with their check, and no sound entry.
use Rattle.std.proofs.Common.{◌≡◌, ◌≢◌, ◌∙◌, refl, sym, ap, subst, ℕ, ◌+◌, ◌-◌, ◌*◌, ◌^◌, ◌<◌, List, [], ◌∷◌, length, take, drop, arith, inl, inr, None, Some}
use Rattle.std.proofs.Common.{Option, ◌⊎◌}
use Rattle.std.specs.Prelude.{IsFalse, IsTrue, bit_xor, replicate, slice_index}
use Rattle.std.specs.Int.Bits.{xor_zero_r}
use Rattle.std.proofs.lemmas.List.{drop-drop, take-take, take_all}
use Rattle.std.proofs.lemmas.Bool.{cases_eq, false_from_ne_true}
use Rattle.ss_checksum.specs.Changes.{AreAsLong, difference, number_of_bytes}
use Rattle.ss_checksum.specs.Codeword.{IsChecked}
use Rattle.ss_checksum.proofs.CodewordLemmas.{bursts, fronts}
use Rattle.ss_checksum.proofs.ParityLemmas.{odd}
use Rattle.ss_checksum.proofs.ReturnLemmas.{two}
use Rattle.ss_codec.specs.declared.record.Record.{Record}
use Rattle.ss_codec.specs.declared.record.Record.TheVariants.{Free, Stream, Window, Landmark, Value}
use Rattle.ss_codec.specs.Decoded.{decoded, record_in}
use Rattle.ss_codec.specs.Record.{is_valid, spelling}
use Rattle.ss_codec.proofs.RecordLemmas.{Spells-decoded, spelling-free}
use Rattle.ss_fields.specs.Fields.{number_bytes}
use Rattle.ss_fields.proofs.FieldLemmas.{length-number_bytes, number_at-take}
use Rattle.ss_journal.specs.Checks.{slot_form}
use Rattle.ss_journal.specs.Puts.{FillSlots, IsTxn}
use Rattle.ss_journal.specs.declared.kind.Kind.TheVariants.{Checked}
use Rattle.ss_journal.specs.declared.put.Put.{Put}
use Rattle.ss_journal.proofs.CheckLemmas.{length-slot_form, slot_form-twice, slot_form-zeros}
use Rattle.ss_laws.specs.Damage.{AreOddBits, AreTwoBits, in_entry, in_slot, IsBurst, is_entry, read_from}
use Rattle.ss_laws.proofs.FormLemmas.{AreBytes-number_bytes, AreBytes-slot_form, IsChecked-entry, IsChecked-good, IsChecked-slot_form, length-in_entry}
use Rattle.ss_laws.proofs.FormLemmas.{take-slot_form}
use Rattle.ss_laws.proofs.NumberLemmas.{drop-some, no_burst, no_two_bits, take-some}
use Rattle.ss_laws.proofs.SpelledLemmas.{AreBytes-spelling, IsSpread, IsSpread-same, IsSpread-spelling, end-spelling, length-spelling}

free_or_live : (r : Record) → (r ≡ Free) ⊎ (r ≢ Free)
free_or_live Free = inl refl
free_or_live (Stream id name params dropped) = inr (λ same. absurd cc)
free_or_live (Window id first f) = inr (λ same. absurd cc)
free_or_live (Landmark id number values start finish) = inr (λ same. absurd cc)
free_or_live (Value id number index t v) = inr (λ same. absurd cc)

-- a live record ends with its check in its slot
IsChecked-in_slot : (slot : ℕ) (r : Record) → IsTrue (is_valid r) → r ≢ Free → IsChecked (number_bytes 4 slot) (in_slot slot r)
IsChecked-in_slot slot r valid live =
    IsChecked-slot_form slot (spelling r) (IsSpread-spelling r valid live).kind (end-spelling r valid)

IsSpread-in_slot : (slot : ℕ) (r : Record) → IsTrue (is_valid r) → r ≢ Free → IsSpread (in_slot slot r)
IsSpread-in_slot slot r valid live = IsSpread-same (spelling r) (in_slot slot r) (take-slot_form slot (spelling r)) (IsSpread-spelling r valid live)

-- from bytes that don't end with their check no record is read, but for zeros, which are a free slot
read_from-unchecked : (slot : ℕ) (bytes : List ℕ) → ¬ IsChecked (number_bytes 4 slot) bytes → (found : Option Record) → found ≡ read_from slot bytes
    → (found ≡ None) ⊎ (bytes ≡ replicate 128 0)
read_from-unchecked slot bytes bad None is = inl refl
read_from-unchecked slot bytes bad (Some r) is =
    let spells = Spells-decoded (slot_form Checked slot bytes) r (sym is) in
    let again : bytes ≡ in_slot slot r = sym (slot_form-twice Checked slot bytes) ∙ ap (slot_form Checked slot) spells.spelled in
    elim (free_or_live r) [
      | inl free ↦
          let zeros : spelling r ≡ replicate 128 0 = ap spelling free ∙ spelling-free in
          inr (again ∙ ap (slot_form Checked slot) zeros ∙ slot_form-zeros Checked slot)
      | inr live ↦ absurd (bad (subst (IsChecked (number_bytes 4 slot)) (sym again) (IsChecked-in_slot slot r spells.valid live)))
    ]

number_of_bytes-zeros : number_of_bytes (replicate 128 0) ≡ 0
number_of_bytes-zeros = refl

-- what zeros differ in from bytes is the number of these
difference-zeros : (xs ys : List ℕ) (d : ℕ) → ys ≡ replicate 128 0 → difference xs ys ≡ d → number_of_bytes xs ≡ d
difference-zeros xs ys d zeros is =
    sym (ap (λ (list : List ℕ). difference xs list) zeros ∙ ap (bit_xor (number_of_bytes xs)) number_of_bytes-zeros ∙ xor_zero_r (number_of_bytes xs)) ∙ is

first-some : (xs : List ℕ) → (slice_index xs 0 ≡ 0 → ⊥) → 0 < number_of_bytes (take 1 xs)
first-some [] live = absurd (live refl)
first-some (x ∷ xs) live = elim (cases_eq x 0) [
  | inl none ↦ absurd (live none)
  | inr other ↦ omega (arith, other)
]

-- no run of 32 bits makes zeros of a live record, nor do two bits
zeros-burst : (xs ys : List ℕ) → IsSpread xs → IsBurst xs ys → ys ≡ replicate 128 0 → ⊥
zeros-burst xs ys spread burst zeros =
    no_burst xs burst.run burst.at burst.long.bytes (first-some xs spread.kind) (take-some spread.far (drop 8 xs) spread.ninth) burst.few
    (difference-zeros xs ys (burst.run * 2 ^ burst.at) zeros burst.is)

zeros-two : (xs ys : List ℕ) → IsSpread xs → AreTwoBits xs ys → ys ≡ replicate 128 0 → ⊥
zeros-two xs ys spread bits zeros =
    let order = spread.order in
    let behind = spread.behind in
    let seam = spread.place + spread.size in
    let first : 0 < number_of_bytes (take spread.place xs) =
    take-some 1 (take spread.place xs)
    (rw (take-take 1 spread.place xs (omega (arith, order))) (first-some xs spread.kind)) in
    let there : drop (spread.last - seam) (drop seam xs) ≡ drop spread.last xs =
    drop-drop (spread.last - seam) seam xs ∙ ap (λ (n : ℕ). drop n xs) (omega (arith, behind)) in
    let end : 0 < number_of_bytes (drop seam xs) =
    drop-some (spread.last - seam) (drop seam xs) (rw there (take-some spread.width (drop spread.last xs) spread.end)) in
    no_two_bits xs bits.lower bits.higher spread.place spread.size bits.long.bytes first spread.middle end bits.order
    (difference-zeros xs ys (bit_xor (2 ^ bits.lower) (2 ^ bits.higher)) zeros bits.is)

length-in_slot : (slot : ℕ) (r : Record) → IsTrue (is_valid r) → length (in_slot slot r) ≡ 128
length-in_slot slot r valid = length-slot_form Checked slot (spelling r) ∙ length-spelling r valid

pub record_burst : (slot : ℕ) (r : Record) (bytes : List ℕ) → IsTrue (is_valid r) → r ≢ Free → IsBurst (in_slot slot r) bytes → read_from slot bytes ≡ None
record_burst slot r bytes valid live burst =
    let xs = in_slot slot r in
    let bad = bursts (number_bytes 4 slot) xs bytes burst.run burst.at (AreBytes-number_bytes 4 slot) burst.long (IsChecked-in_slot slot r valid live)
    burst.some burst.few burst.is in
    elim (read_from-unchecked slot bytes bad (read_from slot bytes) refl) [
      | inl none ↦ none
      | inr zeros ↦ absurd (zeros-burst xs bytes (IsSpread-in_slot slot r valid live) burst zeros)
    ]

pub record_two : (slot : ℕ) (r : Record) (bytes : List ℕ) → IsTrue (is_valid r) → r ≢ Free → AreTwoBits (in_slot slot r) bytes → read_from slot bytes ≡ None
record_two slot r bytes valid live bits =
    let xs = in_slot slot r in
    let bad = two (number_bytes 4 slot) xs bytes bits.lower bits.higher (AreBytes-number_bytes 4 slot) bits.long (IsChecked-in_slot slot r valid live)
    (omega (arith, length-in_slot slot r valid)) bits.order bits.is in
    elim (read_from-unchecked slot bytes bad (read_from slot bytes) refl) [
      | inl none ↦ none
      | inr zeros ↦ absurd (zeros-two xs bytes (IsSpread-in_slot slot r valid live) bits zeros)
    ]

-- zeros are a free slot, whichever its number
decoded-zeros : decoded (replicate 128 0) ≡ Some Free
unfolding decoded record_in is_valid spelling
decoded-zeros = refl

read_from-zeros : (slot : ℕ) → read_from slot (replicate 128 0) ≡ Some Free
read_from-zeros slot = ap decoded (slot_form-zeros Checked slot) ∙ decoded-zeros

pub record_odd : (slot : ℕ) (r : Record) (bytes : List ℕ) → IsTrue (is_valid r) → r ≢ Free → AreOddBits (in_slot slot r) bytes
    → (read_from slot bytes ≡ None) ⊎ ((bytes ≡ replicate 128 0) × (read_from slot bytes ≡ Some Free))
record_odd slot r bytes valid live bits =
    let bad = odd (number_bytes 4 slot) (in_slot slot r) bytes bits.first bits.second bits.third (AreBytes-number_bytes 4 slot) bits.long
    (IsChecked-in_slot slot r valid live) bits.is in
    elim (read_from-unchecked slot bytes bad (read_from slot bytes) refl) [
      | inl none ↦ inl none
      | inr zeros ↦ inr (zeros, ap (read_from slot) zeros ∙ read_from-zeros slot)
    ]

-- numbers of 32 bits with the same bytes are one
same-number : (x y : ℕ) → x < 2 ^ 32 → y < 2 ^ 32 → number_bytes 4 x ≡ number_bytes 4 y → x ≡ y
same-number x y few few_too same =
    let whole = λ (z : ℕ). take_all 4 (number_bytes 4 z) (omega (arith, length-number_bytes 4 z)) in
    sym (number_at-take 4 0 x (number_bytes 4 x) (omega (arith, few)) (whole x))
    ∙ number_at-take 4 0 y (number_bytes 4 x) (omega (arith, few_too)) (whole x ∙ same)

pub record_moved : (from to : ℕ) (r : Record) → from < 2 ^ 32 → to < 2 ^ 32 → from ≢ to → IsTrue (is_valid r) → r ≢ Free
    → read_from to (in_slot from r) ≡ None
record_moved from to r few few_too apart valid live =
    let xs = in_slot from r in
    let spread = IsSpread-spelling r valid live in
    let are = AreBytes-slot_form from (spelling r) spread.kind (end-spelling r valid) (AreBytes-spelling r valid) in
    let long : AreAsLong (number_bytes 4 from) (number_bytes 4 to) = record {
      same = length-number_bytes 4 to ∙ sym (length-number_bytes 4 from);
      bytes = AreBytes-number_bytes 4 from;
      others = AreBytes-number_bytes 4 to;
    } in
    let bad : ¬ IsChecked (number_bytes 4 to) xs = λ other.
    apart (sym (same-number to from few_too few (fronts (number_bytes 4 from) (number_bytes 4 to) xs long
    (omega (arith, length-number_bytes 4 from)) are (IsChecked-in_slot from r valid live) other))) in
    elim (read_from-unchecked to xs bad (read_from to xs) refl) [
      | inl none ↦ none
      | inr zeros ↦ absurd ((IsSpread-in_slot from r valid live).kind (ap (λ (list : List ℕ). slice_index list 0) zeros))
    ]

-- bytes of an entry that don't end with their check aren't sound
unsound : (n : ℕ) (puts : List Put) (bytes : List ℕ) (extent : ℕ) → FillSlots puts → IsTxn puts → AreAsLong (in_entry n puts) bytes
    → ¬ IsChecked (number_bytes 4 n) bytes → IsFalse (is_entry n bytes extent)
unsound n puts bytes extent whole txn long bad =
    false_from_ne_true (is_entry n bytes extent)
    (λ good. bad (IsChecked-good n 165 bytes extent (long.same ∙ length-in_entry n 165 puts whole txn) good))

pub entry_burst : (n : ℕ) (puts : List Put) (bytes : List ℕ) (extent : ℕ) → FillSlots puts → IsTxn puts → IsBurst (in_entry n puts) bytes
    → IsFalse (is_entry n bytes extent)
entry_burst n puts bytes extent whole txn burst =
    unsound n puts bytes extent whole txn burst.long
    (bursts (number_bytes 4 n) (in_entry n puts) bytes burst.run burst.at (AreBytes-number_bytes 4 n) burst.long (IsChecked-entry n 165 puts whole txn)
    burst.some burst.few burst.is)

pub entry_two : (n : ℕ) (puts : List Put) (bytes : List ℕ) (extent : ℕ) → FillSlots puts → IsTxn puts → AreTwoBits (in_entry n puts) bytes
    → IsFalse (is_entry n bytes extent)
entry_two n puts bytes extent whole txn bits =
    unsound n puts bytes extent whole txn bits.long
    (two (number_bytes 4 n) (in_entry n puts) bytes bits.lower bits.higher (AreBytes-number_bytes 4 n) bits.long (IsChecked-entry n 165 puts whole txn)
    (omega (arith, length-in_entry n 165 puts whole txn)) bits.order bits.is)

pub entry_odd : (n : ℕ) (puts : List Put) (bytes : List ℕ) (extent : ℕ) → FillSlots puts → IsTxn puts → AreOddBits (in_entry n puts) bytes
    → IsFalse (is_entry n bytes extent)
entry_odd n puts bytes extent whole txn bits =
    unsound n puts bytes extent whole txn bits.long
    (odd (number_bytes 4 n) (in_entry n puts) bytes bits.first bits.second bits.third (AreBytes-number_bytes 4 n) bits.long
    (IsChecked-entry n 165 puts whole txn) bits.is)
