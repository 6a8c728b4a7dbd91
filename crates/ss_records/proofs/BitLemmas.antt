-- Bits in words of 64.
use Rattle.std.proofs.Common.{◌≡◌, ◌≢◌, ◌∙◌, sym, ap, refl, ℕ, ◌+◌, ◌-◌, ◌*◌, ◌/◌, ◌%◌, ◌^◌, ◌<◌, ◌≤◌, Bool, true, false, cond, nat_eq, List, length, get_or}
use Rattle.std.proofs.Common.{set, arith, w64, inl, inr, bit_or, bit_and}
use Rattle.std.proofs.lemmas.Bool.{eq-eqb, ne_eqb, eqb-true, eqb-false, cases_eq, cond-true, cond-false}
use Rattle.std.proofs.lemmas.List.{get_or-set_same, get_or-set_other}
use Rattle.std.proofs.lemmas.Nat.Bits.{bit_at_set_same, bit_at_set_other, bit_at_clear_same, bit_at_clear_other, bit_at-trailing_ones, bit_at_ones}
use Rattle.std.specs.Int.{bit_at, bit_not, trailing_ones}
use Rattle.ss_records.specs.Bits.{is_set, is_full_word}

-- a bit as a number
abbrev pub digit : Bool → ℕ
digit bit = cond bit 1 0

digit-is : (bit : Bool) → nat_eq (digit bit) 1 ≡ bit
digit-is true = refl
digit-is false = refl

-- the two words that `with_bit` makes
pub bit_at-with_bit : (word k : ℕ) (to : Bool) → k < 64 → (j : ℕ) → j < 64
    → bit_at (cond to (bit_or word (1 * 2 ^ k % 2 ^ 64)) (bit_and word (bit_not w64 (1 * 2 ^ k % 2 ^ 64)))) j ≡ cond (nat_eq j k) (digit to) (bit_at word j)
bit_at-with_bit word k true within j lt =
    elim (cases_eq j k) [
      | inl same ↦ rw same (bit_at_set_same w64 word k within ∙ sym (cond-true (nat_eq k k) _ _ (eq-eqb k k refl)))
      | inr other ↦ bit_at_set_other w64 word k within j other ∙ sym (cond-false (nat_eq j k) _ _ (ne_eqb j k other))
    ]
bit_at-with_bit word k false within j lt =
    elim (cases_eq j k) [
      | inl same ↦ rw same (bit_at_clear_same w64 word k within ∙ sym (cond-true (nat_eq k k) _ _ (eq-eqb k k refl)))
      | inr other ↦ bit_at_clear_other w64 word k within j lt other ∙ sym (cond-false (nat_eq j k) _ _ (ne_eqb j k other))
    ]

digit-cond : (here to : Bool) (old : ℕ) → nat_eq (cond here (digit to) old) 1 ≡ cond here to (nat_eq old 1)
digit-cond true to old = digit-is to
digit-cond false to old = refl

-- in one word two places are the same where they are the same in the word
same_rest : (j k : ℕ) → j / 64 ≡ k / 64 → nat_eq (j % 64) (k % 64) ≡ nat_eq j k
same_rest j k same =
    elim (cases_eq j k) [
      | inl equal ↦ eq-eqb (j % 64) (k % 64) (ap (λ (n : ℕ). n % 64) equal) ∙ sym (eq-eqb j k equal)
      | inr other ↦ ne_eqb (j % 64) (k % 64) (λ rest. other (omega (arith, same, rest))) ∙ sym (ne_eqb j k other)
    ]

-- a word is written, of which one bit is as told and the others are as they were
pub is_set-put : (words : List ℕ) (word k : ℕ) (to : Bool) → k / 64 < length words
    → ((i : ℕ) → i < 64 → bit_at word i ≡ cond (nat_eq i (k % 64)) (digit to) (bit_at (get_or words (k / 64) 0) i))
    → (j : ℕ) → is_set (set words (k / 64) word) j ≡ cond (nat_eq j k) to (is_set words j)
is_set-put words word k to within bits j =
    elim (cases_eq (j / 64) (k / 64)) [
      | inl same ↦ (
          let old = get_or words (k / 64) 0 in
          let read : get_or (set words (k / 64) word) (j / 64) 0 ≡ word = ap (λ (n : ℕ). get_or (set words (k / 64) word) n 0) same
          ∙ get_or-set_same words (k / 64) word 0 within in
          ap (λ (w : ℕ). nat_eq (bit_at w (j % 64)) 1) read
          ∙ ap (λ (n : ℕ). nat_eq n 1) (bits (j % 64) (omega arith))
          ∙ digit-cond (nat_eq (j % 64) (k % 64)) to (bit_at old (j % 64))
          ∙ ap (λ (b : Bool). cond b to (nat_eq (bit_at old (j % 64)) 1)) (same_rest j k same)
          ∙ ap (λ (n : ℕ). cond (nat_eq j k) to (nat_eq (bit_at (get_or words n 0) (j % 64)) 1)) (sym same))
      | inr other ↦
          ap (λ (w : ℕ). nat_eq (bit_at w (j % 64)) 1) (get_or-set_other words (k / 64) (j / 64) word 0 other)
          ∙ sym (cond-false (nat_eq j k) to (is_set words j) (ne_eqb j k (λ same. other (ap (λ (n : ℕ). n / 64) same))))
    ]

-- the bits of word n
is_set-within : (words : List ℕ) (n i : ℕ) → i < 64 → is_set words (64 * n + i) ≡ nat_eq (bit_at (get_or words n 0) i) 1
is_set-within words n i lt =
    let div : (64 * n + i) / 64 ≡ n = omega arith in
    let rest : (64 * n + i) % 64 ≡ i = omega arith in
    rw (div, rest) refl

-- the lowest bit of word n that isn't set, and those below it
module _ (words : List ℕ) (n place : ℕ) (fits : get_or words n 0 < 2 ^ 64) (room : is_full_word (get_or words n 0) ≡ false) where
  not_full : get_or words n 0 + 1 < 2 ^ 64
  not_full = let other : get_or words n 0 ≢ 2 ^ 64 - 1 = eqb-false _ _ room in omega (arith, fits, other)

  module _ (is : place ≡ 64 * n + trailing_ones w64 (get_or words n 0)) where
    pub first_clear-below : place < 64 * n + 64
    first_clear-below = omega (arith, is, (bit_at-trailing_ones w64 (get_or words n 0) not_full).0)

    pub is_set-first_clear : is_set words place ≡ false
    is_set-first_clear =
        let ones = bit_at-trailing_ones w64 (get_or words n 0) not_full in
        ap (is_set words) is ∙ is_set-within words n (trailing_ones w64 (get_or words n 0)) ones.0 ∙ ap (λ (bit : ℕ). nat_eq bit 1) ones.1

    pub is_set-before_clear : (j : ℕ) → 64 * n ≤ j → j < place → is_set words j ≡ true
    is_set-before_clear j from lt =
        let ones = bit_at-trailing_ones w64 (get_or words n 0) not_full in
        let before : j - 64 * n < trailing_ones w64 (get_or words n 0) = omega (arith, from, lt, is) in
        let split : j ≡ 64 * n + (j - 64 * n) = omega (arith, from) in
        ap (is_set words) split ∙ is_set-within words n (j - 64 * n) (omega (arith, before, ones.0))
        ∙ ap (λ (bit : ℕ). nat_eq bit 1) (ones.2 (j - 64 * n) before)

-- every bit of a full word
pub is_set-full : (words : List ℕ) (j : ℕ) → is_full_word (get_or words (j / 64) 0) ≡ true → is_set words j ≡ true
is_set-full words j full =
    let word : get_or words (j / 64) 0 ≡ 2 ^ 64 - 1 = eqb-true _ _ full in
    ap (λ (w : ℕ). nat_eq (bit_at w (j % 64)) 1) word ∙ ap (λ (bit : ℕ). nat_eq bit 1) (bit_at_ones 64 (j % 64) (omega arith))
