-- What the file has of a live record ends with its check, and so does an entry behind its gate.
use Rattle.std.proofs.Common.{◌≡◌, ◌∙◌, refl, sym, ap, ap₂, subst, ℕ, zero, suc, ◌+◌, ◌-◌, ◌*◌, ◌/◌, ◌^◌, ◌<◌, List, [], ◌∷◌, ◌++◌, length, take, drop, arith}
use Rattle.std.proofs.Common.{inl, inr}
use Rattle.std.specs.Prelude.{All, IsTrue, flat_map, replicate, slice_index}
use Rattle.std.specs.Int.{byte_at, bytes_high_first, bytes_low_first}
use Rattle.std.specs.Int.Bits.{xor_zero_l}
use Rattle.std.proofs.Math.Nat.{mod-lt}
use Rattle.std.proofs.lemmas.Bool.{and_parts, cases_eq}
use Rattle.std.proofs.lemmas.List.{drop-drop, drop-replicate, drop_at, length-drop}
use Rattle.std.proofs.lemmas.List.Elements.{All-append, All-cons, All-nil, All-take}
use Rattle.ss_checksum.proofs.ChangeLemmas.{AreBytes}
use Rattle.ss_checksum.specs.Checksum.{checksum}
use Rattle.ss_checksum.specs.Codeword.{IsChecked, check_bytes}
use Rattle.ss_fields.specs.Fields.{number_bytes}
use Rattle.ss_journal.specs.Checks.{check_of, entry_form, masked, masked_from, slot_form}
use Rattle.ss_journal.specs.declared.kind.Kind.TheVariants.{Checked}
use Rattle.ss_journal.specs.Entries.{entry_body, is_good, put_bytes, put_count}
use Rattle.ss_journal.specs.Puts.{FillSlots, IsTxn}
use Rattle.ss_journal.specs.declared.put.Put.{Put}
use Rattle.ss_journal.proofs.CheckLemmas.{entry_form-gate, entry_form-twice, length-entry_form, slot_form-free, slot_form-live, take-masked_from}
use Rattle.ss_journal.proofs.EntryLemmas.{IsSoundEntry-good, length-entry_body, length-puts_bytes}
use Rattle.ss_codec.proofs.ZeroLemmas.{list_all-zeros}

masked-zeros : (mask : List ℕ) → masked (replicate (length mask) 0) mask ≡ mask
masked-zeros [] = refl
masked-zeros (m ∷ mask) = ap₂ ◌∷◌ (xor_zero_l m) (masked-zeros mask)

-- a mask that is taken into bytes which end with four zeros stands at their end
masked-end : (mask bytes : List ℕ) (n : ℕ) → length mask ≡ 4 → drop n bytes ≡ replicate 4 0 → masked_from n mask bytes ≡ take n bytes ++ mask
masked-end mask bytes n four end =
    ap (λ (rest : List ℕ). take n bytes ++ masked rest mask) (end ∙ ap (λ (k : ℕ). replicate k 0) (sym four))
    ∙ ap (λ (rest : List ℕ). take n bytes ++ rest) (masked-zeros mask)

-- so they end with their check once it is taken into them
IsChecked-masked : (front bytes : List ℕ) (n : ℕ) → drop n bytes ≡ replicate 4 0
    → IsChecked front (masked_from n (check_bytes (checksum (front ++ take n bytes))) bytes)
IsChecked-masked front bytes n end = record {
  covered = take n bytes;
  are = masked-end (check_bytes (checksum (front ++ take n bytes))) bytes n refl end;
}

pub IsChecked-slot_form : (slot : ℕ) (bytes : List ℕ) → (slice_index bytes 0 ≡ 0 → ⊥) → drop 124 bytes ≡ replicate 4 0
    → IsChecked (number_bytes 4 slot) (slot_form Checked slot bytes)
IsChecked-slot_form slot bytes live end =
    subst (IsChecked (number_bytes 4 slot)) (sym (slot_form-live slot bytes live)) (IsChecked-masked (number_bytes 4 slot) bytes 124 end)

-- all before the check stays
pub take-slot_form : (slot : ℕ) (bytes : List ℕ) → take 124 (slot_form Checked slot bytes) ≡ take 124 bytes
take-slot_form slot bytes = elim (cases_eq (slice_index bytes 0) 0) [
  | inl free ↦ ap (take 124) (slot_form-free slot bytes free)
  | inr live ↦ ap (take 124) (slot_form-live slot bytes live) ∙ take-masked_from 124 (check_of slot (take 124 bytes)) bytes
]

pub IsChecked-entry_form : (n gate : ℕ) (bytes : List ℕ) → drop 539 bytes ≡ replicate 4 0 →
    IsChecked (number_bytes 4 n) (drop 1 (entry_form Checked n (gate ∷ bytes)))
unfolding entry_form
IsChecked-entry_form n gate bytes end = IsChecked-masked (number_bytes 4 n) bytes 539 end

-- the end of an entry of puts is zeros
end-entry_body : (puts : List Put) → FillSlots puts → IsTxn puts → drop 539 (entry_body puts) ≡ replicate 4 0
unfolding entry_body
end-entry_body puts whole txn =
    let front : List ℕ = length puts ∷ flat_map put_bytes puts in
    let zeros = 542 - 132 * length puts in
    let size : length front ≡ 1 + 132 * length puts = omega (arith, length-puts_bytes puts whole) in
    let parts : 539 ≡ 1 + 132 * length puts + (538 - 132 * length puts) = omega (arith, txn.few) in
    let left : zeros - (538 - 132 * length puts) ≡ 4 = omega (arith, txn.few) in
    ap (λ (n : ℕ). drop n (front ++ replicate zeros 0)) parts
    ∙ sym (drop-drop (538 - 132 * length puts) (1 + 132 * length puts) (front ++ replicate zeros 0))
    ∙ ap (drop (538 - 132 * length puts)) (drop_at front (replicate zeros 0) (1 + 132 * length puts) size)
    ∙ drop-replicate (538 - 132 * length puts) zeros 0
    ∙ ap (λ (n : ℕ). replicate n 0) left

pub IsChecked-entry : (n gate : ℕ) (puts : List Put) → FillSlots puts → IsTxn puts
    → IsChecked (number_bytes 4 n) (drop 1 (entry_form Checked n (gate ∷ entry_body puts)))
IsChecked-entry n gate puts whole txn = IsChecked-entry_form n gate (entry_body puts) (end-entry_body puts whole txn)

pub length-in_entry : (n gate : ℕ) (puts : List Put) → FillSlots puts → IsTxn puts → length (drop 1 (entry_form Checked n (gate ∷ entry_body puts))) ≡ 543
length-in_entry n gate puts whole txn =
    omega (
      arith,
      length-drop 1 (entry_form Checked n (gate ∷ entry_body puts)),
      length-entry_form Checked n (gate ∷ entry_body puts),
      length-entry_body puts whole txn.few,
    )

-- what is sound ends with zeros
end-good : (entry : List ℕ) (extent : ℕ) → length entry ≡ 544 → IsTrue (is_good entry extent) → drop 540 entry ≡ replicate 4 0
unfolding is_good
end-good entry extent long good =
    let few = (IsSoundEntry-good entry extent good).few in
    let place = 2 + 132 * put_count entry in
    let rest = drop place entry in
    let all : rest ≡ replicate (length rest) 0 = list_all-zeros rest (and_parts _ _ good).1 in
    let size : length rest ≡ 544 - place = omega (arith, length-drop place entry, long) in
    let parts : 540 ≡ place + (540 - place) = omega (arith, few) in
    let left : length rest - (540 - place) ≡ 4 = omega (arith, few, size) in
    ap (λ (n : ℕ). drop n entry) parts ∙ sym (drop-drop (540 - place) place entry) ∙ ap (drop (540 - place)) all
    ∙ drop-replicate (540 - place) (length rest) 0 ∙ ap (λ (n : ℕ). replicate n 0) left

-- so bytes that are read as a sound entry end with their check
pub IsChecked-good : (n gate : ℕ) (bytes : List ℕ) (extent : ℕ) → length bytes ≡ 543 → IsTrue (is_good (entry_form Checked n (gate ∷ bytes)) extent)
    → IsChecked (number_bytes 4 n) bytes
IsChecked-good n gate bytes extent long good =
    let plain = entry_form Checked n (gate ∷ bytes) in
    let body = drop 1 plain in
    let parts : plain ≡ gate ∷ body = entry_form-gate Checked n gate bytes in
    let size : length plain ≡ 544 = omega (arith, length-entry_form Checked n (gate ∷ bytes), long) in
    let end : drop 539 body ≡ replicate 4 0 = drop-drop 539 1 plain ∙ end-good plain extent size good in
    let again : drop 1 (entry_form Checked n (gate ∷ body)) ≡ bytes =
    ap (λ (entry : List ℕ). drop 1 (entry_form Checked n entry)) (sym parts) ∙ ap (drop 1) (entry_form-twice Checked n (gate ∷ bytes)) in
    subst (IsChecked (number_bytes 4 n)) again (IsChecked-entry_form n gate body end)

byte_at-lt : (k x : ℕ) → byte_at k x < 2 ^ 8
byte_at-lt zero x = mod-lt x (omega arith)
byte_at-lt (suc k) x = mod-lt (x / 256 ^ suc k) (omega arith)

low_bytes : (i n x : ℕ) → All (λ b. b < 2 ^ 8) (bytes_low_first i n x)
low_bytes i zero x = All-nil (λ b. b < 2 ^ 8)
low_bytes i (suc n) x = All-cons (λ b. b < 2 ^ 8) (byte_at i x) (bytes_low_first (suc i) n x) (byte_at-lt i x) (low_bytes (suc i) n x)

high_bytes : (n x : ℕ) → All (λ b. b < 2 ^ 8) (bytes_high_first n x)
high_bytes zero x = All-nil (λ b. b < 2 ^ 8)
high_bytes (suc n) x = All-cons (λ b. b < 2 ^ 8) (byte_at n x) (bytes_high_first n x) (byte_at-lt n x) (high_bytes n x)

pub AreBytes-number_bytes : (n x : ℕ) → AreBytes (number_bytes n x)
unfolding number_bytes
AreBytes-number_bytes n x = high_bytes n x

-- the form of bytes is bytes
pub AreBytes-slot_form : (slot : ℕ) (bytes : List ℕ) → (slice_index bytes 0 ≡ 0 → ⊥) → drop 124 bytes ≡ replicate 4 0 → AreBytes bytes
    → AreBytes (slot_form Checked slot bytes)
AreBytes-slot_form slot bytes live end are =
    let sum = check_bytes (checksum (number_bytes 4 slot ++ take 124 bytes)) in
    let both : AreBytes (take 124 bytes ++ sum) =
    All-append (λ b. b < 2 ^ 8) (take 124 bytes) sum (All-take (λ b. b < 2 ^ 8) 124 bytes are)
    (low_bytes 0 4 (checksum (number_bytes 4 slot ++ take 124 bytes))) in
    subst AreBytes (sym (slot_form-live slot bytes live ∙ masked-end sum bytes 124 refl end)) both
