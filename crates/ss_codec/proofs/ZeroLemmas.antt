-- Zeros, tested by words.
use Rattle.std.proofs.Common.{◌≡◌, ◌∙◌, ℕ, ◌+◌, ◌≤◌, ◌==◌, ◌&&◌, Bool, true, false, List, [], ◌∷◌}
use Rattle.std.proofs.Common.{get_or, take, drop, length, replicate, arith, refl, sym, ap}
use Rattle.std.proofs.Math.Seq.{drop-cons, take-add}
use Rattle.std.proofs.lemmas.Bool.{eq-eqb, eqb-true}
use Rattle.std.proofs.lemmas.Bool.Decides.{nat_tests}
use Rattle.std.proofs.lemmas.List.{drop-drop, length-drop, length-take-le}
use Rattle.std.proofs.lemmas.List.Folds.{list_all-append}
use Rattle.std.specs.List.{list_all}
use Rattle.ss_fields.proofs.FieldLemmas.{number_at-take}
use Rattle.ss_fields.proofs.ReadNumbers.{AreBytes, number_bytes-number_at}
use Rattle.ss_fields.specs.Fields.{number_at, number_bytes}
use Rattle.ss_codec.specs.Decoded.{is_blank_beside, is_filter_spelled}

pub same_tests : (a b : Bool) → (a ≡ true → b ≡ true) → (b ≡ true → a ≡ true) → a ≡ b
same_tests true b to from = sym (to refl)
same_tests false true to from = from refl
same_tests false false to from = refl

pub list_all-zeros : (xs : List ℕ) → list_all (λ byte. byte == 0) xs ≡ true → xs ≡ replicate (length xs) 0
list_all-zeros [] all = refl
list_all-zeros (x ∷ xs) all =
    let first : x ≡ 0 = grind (arith, nat_tests) in
    let rest : list_all (λ byte. byte == 0) xs ≡ true = grind (arith, nat_tests) in
    let tail = list_all-zeros xs rest in
    λ i. first i ∷ tail i

-- a number is 0 where its bytes are zeros
number_at-zeros : (bytes : List ℕ) (at : ℕ) → at + 8 ≤ length bytes → AreBytes bytes
    → (number_at 8 bytes at == 0) ≡ list_all (λ byte. byte == 0) (take 8 (drop at bytes))
unfolding number_bytes
number_at-zeros bytes at within are =
    let z : ℕ → Bool = λ byte. byte == 0 in
    let word = take 8 (drop at bytes) in
    let size : length word ≡ 8 = length-take-le 8 (drop at bytes) (omega (arith, length-drop at bytes, within)) in
    same_tests (number_at 8 bytes at == 0) (list_all z word)
    (λ is. ap (list_all z) (sym (number_bytes-number_at 8 at bytes within are) ∙ ap (number_bytes 8) (eqb-true (number_at 8 bytes at) 0 is)))
    (λ all. eq-eqb (number_at 8 bytes at) 0
    (number_at-take 8 at 0 bytes (omega arith) (list_all-zeros word all ∙ ap (λ (n : ℕ). replicate n 0) size)))

-- the bytes of some words are zeros where the first word and those of the others are
pub zeros-word : (bytes : List ℕ) (at size next rest : ℕ) → at + 8 ≡ next → 8 + rest ≡ size → next ≤ length bytes → AreBytes bytes
    → list_all (λ byte. byte == 0) (take size (drop at bytes))
    ≡ (number_at 8 bytes at == 0 && list_all (λ byte. byte == 0) (take rest (drop next bytes)))
zeros-word bytes at size next rest same split within are =
    let z : ℕ → Bool = λ byte. byte == 0 in
    let from = drop at bytes in
    let inside : at + 8 ≤ length bytes = omega (arith, same, within) in
    ap (λ (n : ℕ). list_all z (take n from)) (sym split) ∙ ap (list_all z) (take-add 8 rest from)
    ∙ list_all-append z (take 8 from) (take rest (drop 8 from))
    ∙ ap (λ (b : Bool). b && list_all z (take rest (drop 8 from))) (sym (number_at-zeros bytes at inside are))
    ∙ ap (λ (list : List ℕ). number_at 8 bytes at == 0 && list_all z (take rest list)) (drop-drop 8 at bytes ∙ ap (λ (n : ℕ). drop n bytes) same)

-- the words of a filter are zeros
pub zeros-words : (bytes : List ℕ) → length bytes ≡ 128 → AreBytes bytes → list_all (λ byte. byte == 0) (take 32 (drop 72 bytes))
    ≡ (number_at 8 bytes 72 == 0 && (number_at 8 bytes 80 == 0 && (number_at 8 bytes 88 == 0 && (number_at 8 bytes 96 == 0 && true))))
zeros-words bytes long are =
    zeros-word bytes 72 32 80 24 refl refl (omega arith) are
    ∙ ap (λ (b : Bool). number_at 8 bytes 72 == 0 && b) (zeros-word bytes 80 24 88 16 refl refl (omega arith) are
    ∙ ap (λ (b : Bool). number_at 8 bytes 80 == 0 && b) (zeros-word bytes 88 16 96 8 refl refl (omega arith) are
    ∙ ap (λ (b : Bool). number_at 8 bytes 88 == 0 && b) (zeros-word bytes 96 8 104 0 refl refl (omega arith) are)))

four_tests : (a b c rest : Bool) → ((rest && (a && (b && true))) && c) ≡ (a && (b && (c && rest)))
four_tests false b c false = refl
four_tests false b c true = refl
four_tests true false c false = refl
four_tests true false c true = refl
four_tests true true false false = refl
four_tests true true false true = refl
four_tests true true true false = refl
four_tests true true true true = refl

-- zeros stand wherever a window has no field, by two bytes, the end, and its filter
pub is_blank_bytes : (bytes : List ℕ) → length bytes ≡ 128 → is_blank_beside bytes
    ≡ (get_or bytes 2 0 == 0 && (get_or bytes 3 0 == 0 && (list_all (λ byte. byte == 0) (take 24 (drop 104 bytes)) && is_filter_spelled bytes)))
is_blank_bytes bytes long =
    let z : ℕ → Bool = λ byte. byte == 0 in
    let end = list_all z (take 24 (drop 104 bytes)) in
    ap (λ (list : List ℕ). is_filter_spelled bytes && list_all z (take 2 list) && end) (drop-cons bytes 2 0 (omega (arith, long)))
    ∙ ap (λ (list : List ℕ). is_filter_spelled bytes && list_all z (take 2 (get_or bytes 2 0 ∷ list)) && end) (drop-cons bytes 3 0 (omega (arith, long)))
    ∙ four_tests (get_or bytes 2 0 == 0) (get_or bytes 3 0 == 0) end (is_filter_spelled bytes)
