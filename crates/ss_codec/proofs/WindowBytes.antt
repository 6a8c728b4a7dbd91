-- Which bytes are those of the window that is read from them: those with zeros wherever no field is, and with its filter
-- spelled as it should be.
use Rattle.std.specs.Prelude.{◌≡◌, ℕ, ◌+◌, ◌≤◌, Bool, if◌then◌else◌, None, true, false, ◌==◌, ◌&&◌, List, [], ◌∷◌, ◌++◌}
use Rattle.std.specs.Prelude.{length, replicate, slice_index, drop, take}
use Rattle.std.specs.Int.{cast_unsigned, w64, w128}
use Rattle.std.specs.List.{list_all}
use Rattle.std.specs.Str.{bytes_eq}
use Rattle.std.proofs.Common.{arith, refl, sym, ap, ◌∙◌}
use Rattle.std.proofs.Math.Seq.{drop-cons}
use Rattle.std.proofs.lemmas.List.{drop-drop, length-drop, length-take-le, take-append-drop, take_all}
use Rattle.std.proofs.lemmas.Slice.Eq.{bytes_eq-Decides}
use Rattle.ss_fields.specs.Fields.{number_at, number_bytes}
use Rattle.ss_fields.proofs.ReadNumbers.{AreBytes, i64_bytes-number_at, i128_bytes-number_at, number_bytes-number_at}
use Rattle.ss_summary.specs.Figures.{Figures}
use Rattle.ss_codec.specs.declared.record.Record.TheVariants.{Window}
use Rattle.ss_codec.specs.Fields.{with_field}
use Rattle.ss_codec.specs.Record.{filter_number, spelling, word_spelled}
use Rattle.ss_codec.specs.Decoded.{checked, decoded, figures_in, filter_in, is_blank_beside, is_filter_spelled, record_in, window_in}
use Rattle.ss_codec.proofs.FieldLemmas.{part}
use Rattle.ss_codec.proofs.FilterSpelling.{is_filter_spelled-parts, IsSpelled-is_filter_spelled}
use Rattle.ss_codec.proofs.ZeroLemmas.{list_all-zeros, same_tests}

-- a window's bytes, one field after the other
abbrev window_bytes : ℕ → ℕ → Figures → List ℕ
window_bytes id first f =
    2 ∷ filter_number f.filter ∷ replicate 2 0
    ++ number_bytes 4 id
    ++ number_bytes 8 first
    ++ number_bytes 8 f.count
    ++ number_bytes 16 (cast_unsigned w128 f.sum)
    ++ number_bytes 8 (cast_unsigned w64 f.min)
    ++ number_bytes 8 (cast_unsigned w64 f.max)
    ++ number_bytes 8 f.t_first
    ++ number_bytes 8 f.t_last
    ++ number_bytes 8 (word_spelled f.filter 0)
    ++ number_bytes 8 (word_spelled f.filter 1)
    ++ number_bytes 8 (word_spelled f.filter 2)
    ++ number_bytes 8 (word_spelled f.filter 3)
    ++ replicate 24 0

spelling-window : (id first : ℕ) (f : Figures) → spelling (Window id first f) ≡ window_bytes id first f
unfolding spelling with_field number_bytes
spelling-window id first f = refl

-- where its zeros stand, and its filter
record HasPlaces (id first : ℕ) (f : Figures) : Type 0 where
  front : part 2 2 (window_bytes id first f) ≡ replicate 2 0
  end : part 24 104 (window_bytes id first f) ≡ replicate 24 0
  number : slice_index (window_bytes id first f) 1 ≡ filter_number f.filter
  first_word : part 8 72 (window_bytes id first f) ≡ number_bytes 8 (word_spelled f.filter 0)
  second_word : part 8 80 (window_bytes id first f) ≡ number_bytes 8 (word_spelled f.filter 1)
  third_word : part 8 88 (window_bytes id first f) ≡ number_bytes 8 (word_spelled f.filter 2)
  fourth_word : part 8 96 (window_bytes id first f) ≡ number_bytes 8 (word_spelled f.filter 3)

window_bytes-places : (id first : ℕ) (f : Figures) → HasPlaces id first f
unfolding number_bytes
window_bytes-places id first f = record {
  front = refl;
  end = refl;
  number = refl;
  first_word = refl;
  second_word = refl;
  third_word = refl;
  fourth_word = refl;
}

-- the bytes from a place on are the n first of them and the rest
joined : (n at : ℕ) (bytes field rest : List ℕ) → field ≡ part n at bytes → rest ≡ drop (at + n) bytes → field ++ rest ≡ drop at bytes
joined n at bytes field rest is more =
    ap (λ (xs : List ℕ). xs ++ rest) is
    ∙ ap (λ (xs : List ℕ). part n at bytes ++ xs) (more ∙ sym (drop-drop n at bytes))
    ∙ take-append-drop n (drop at bytes)

pub three_tests : (a b c : Bool) → (a && b && c) ≡ true → (a ≡ true) × (b ≡ true) × (c ≡ true)
three_tests true true true all = (refl, refl, refl)
three_tests true true false all = absurd cc
three_tests true false c all = absurd cc
three_tests false b c all = absurd cc

first-part : (bytes : List ℕ) → slice_index bytes 0 ≡ 2 → part 1 0 bytes ≡ 2 ∷ []
first-part [] kind = absurd (omega arith)
first-part (x ∷ xs) kind = ap (λ (y : ℕ). y ∷ []) kind

second-part : (bytes : List ℕ) → length bytes ≡ 128 → slice_index bytes 1 ∷ [] ≡ part 1 1 bytes
second-part bytes long = sym (ap (take 1) (drop-cons bytes 1 0 (omega (arith, long))))

-- zeros of a part that are tested
part-zeros : (n at : ℕ) (bytes : List ℕ) → at + n ≤ length bytes → list_all (λ byte. byte == 0) (part n at bytes) ≡ true → replicate n 0 ≡ part n at bytes
part-zeros n at bytes inside test =
    let size = length-take-le n (drop at bytes) (omega (arith, length-drop at bytes, inside)) in
    sym (list_all-zeros (part n at bytes) test ∙ ap (λ (m : ℕ). replicate m 0) size)

-- a word of a filter that is spelled as it should be
part-word : (at word : ℕ) (bytes : List ℕ) → at + 8 ≤ length bytes → AreBytes bytes → word ≡ number_at 8 bytes at → number_bytes 8 word ≡ part 8 at bytes
part-word at word bytes inside are is = ap (number_bytes 8) is ∙ number_bytes-number_at 8 at bytes inside are

-- the bytes from 72 on, where a filter is spelled as it should be and zeros stand after it
words-part : (bytes : List ℕ) → length bytes ≡ 128 → AreBytes bytes → is_filter_spelled bytes ≡ true → replicate 24 0 ≡ drop 104 bytes
    → number_bytes 8 (word_spelled (filter_in bytes) 0)
    ++ number_bytes 8 (word_spelled (filter_in bytes) 1)
    ++ number_bytes 8 (word_spelled (filter_in bytes) 2)
    ++ number_bytes 8 (word_spelled (filter_in bytes) 3)
    ++ replicate 24 0
    ≡ drop 72 bytes
unfolding number_bytes
words-part bytes long are test from_104 =
    let is = IsSpelled-is_filter_spelled bytes long are test in
    let from_96 = joined 8 96 bytes _ _ (part-word 96 _ bytes (omega arith) are is.fourth) from_104 in
    let from_88 = joined 8 88 bytes _ _ (part-word 88 _ bytes (omega arith) are is.third) from_96 in
    let from_80 = joined 8 80 bytes _ _ (part-word 80 _ bytes (omega arith) are is.second) from_88 in
    joined 8 72 bytes _ _ (part-word 72 _ bytes (omega arith) are is.first) from_80

-- where zeros stand beside the fields, the window that is read is spelled by the bytes
spelled-is_blank_beside : (bytes : List ℕ) → length bytes ≡ 128 → AreBytes bytes → slice_index bytes 0 ≡ 2 → is_blank_beside bytes ≡ true
    → spelling (window_in bytes) ≡ bytes
unfolding window_in number_at number_bytes
spelled-is_blank_beside bytes long are kind blank =
    let both = three_tests (is_filter_spelled bytes) (list_all (λ byte. byte == 0) (part 2 2 bytes)) (list_all (λ byte. byte == 0) (part 24 104 bytes)) blank in
    let filter_test : is_filter_spelled bytes ≡ true = both.0 in
    let front = part-zeros 2 2 bytes (omega arith) (both.1) in
    let end = part-zeros 24 104 bytes (omega arith) (both.2) in
    let number = (IsSpelled-is_filter_spelled bytes long are filter_test).number in
    let from_104 = end ∙ take_all 24 (drop 104 bytes) (omega (arith, length-drop 104 bytes)) in
    let from_72 = words-part bytes long are filter_test from_104 in
    let from_64 = joined 8 64 bytes _ _ (number_bytes-number_at 8 64 bytes (omega arith) are) from_72 in
    let from_56 = joined 8 56 bytes _ _ (number_bytes-number_at 8 56 bytes (omega arith) are) from_64 in
    let from_48 = joined 8 48 bytes _ _ (i64_bytes-number_at 48 bytes (omega arith) are) from_56 in
    let from_40 = joined 8 40 bytes _ _ (i64_bytes-number_at 40 bytes (omega arith) are) from_48 in
    let from_24 = joined 16 24 bytes _ _ (i128_bytes-number_at 24 bytes (omega arith) are) from_40 in
    let from_16 = joined 8 16 bytes _ _ (number_bytes-number_at 8 16 bytes (omega arith) are) from_24 in
    let from_8 = joined 8 8 bytes _ _ (number_bytes-number_at 8 8 bytes (omega arith) are) from_16 in
    let from_4 = joined 4 4 bytes _ _ (number_bytes-number_at 4 4 bytes (omega arith) are) from_8 in
    let from_2 = joined 2 2 bytes _ _ front from_4 in
    let from_1 = joined 1 1 bytes _ _ (ap (λ (n : ℕ). n ∷ []) number ∙ second-part bytes long) from_2 in
    spelling-window (number_at 4 bytes 4) (number_at 8 bytes 8) (figures_in bytes) ∙ joined 1 0 bytes _ _ (sym (first-part bytes kind)) from_1

is_blank_beside-spelled : (bytes : List ℕ) → length bytes ≡ 128 → AreBytes bytes → spelling (window_in bytes) ≡ bytes → is_blank_beside bytes ≡ true
unfolding window_in
is_blank_beside-spelled bytes long are same =
    let places = window_bytes-places (number_at 4 bytes 4) (number_at 8 bytes 8) (figures_in bytes) in
    let is = sym same ∙ spelling-window (number_at 4 bytes 4) (number_at 8 bytes 8) (figures_in bytes) in
    let filter = is_filter_spelled-parts bytes long are (ap (λ (xs : List ℕ). slice_index xs 1) is ∙ places.number)
    (ap (part 8 72) is ∙ places.first_word) (ap (part 8 80) is ∙ places.second_word)
    (ap (part 8 88) is ∙ places.third_word) (ap (part 8 96) is ∙ places.fourth_word) in
    let front = ap (part 2 2) is ∙ places.front in
    let end = ap (part 24 104) is ∙ places.end in
    rw (filter, front, end) refl

window_in-record_in : (bytes : List ℕ) → slice_index bytes 0 ≡ 2 → record_in bytes ≡ window_in bytes
unfolding record_in
window_in-record_in bytes kind = rw kind refl

-- the bytes of a window are its spelling exactly where zeros stand beside its fields
pub decoded-window : (bytes : List ℕ) → length bytes ≡ 128 → AreBytes bytes → slice_index bytes 0 ≡ 2
    → decoded bytes ≡ (if is_blank_beside bytes then checked (window_in bytes) else None)
unfolding decoded
decoded-window bytes long are kind =
    let test = bytes_eq-Decides (spelling (window_in bytes)) bytes in
    let same = same_tests (is_blank_beside bytes) (bytes_eq (spelling (window_in bytes)) bytes)
    (λ blank. test.1 (spelled-is_blank_beside bytes long are kind blank)) (λ same. is_blank_beside-spelled bytes long are (test.0 same)) in
    rw (window_in-record_in bytes kind, same) refl
