-- Filters as they are spelled, with zeros where they have all bits.
use Rattle.std.specs.Prelude.{◌≡◌, ℕ, ◌+◌, ◌*◌, ◌-◌, ◌^◌, ◌<◌, true, false, ◌==◌, List, [], ◌∷◌, length, replicate, slice_index}
use Rattle.std.specs.List.{list_all}
use Rattle.std.proofs.Common.{arith, refl, sym, ◌∙◌, inl, inr, lit<}
use Rattle.std.proofs.lemmas.Bool.{cases_Bool, not-true}
use Rattle.std.proofs.lemmas.Bool.Decides.{nat_tests}
use Rattle.ss_fields.specs.Fields.{number_at, number_bytes}
use Rattle.ss_fields.proofs.FieldLemmas.{number_at-take}
use Rattle.ss_fields.proofs.ReadNumbers.{AreBytes}
use Rattle.ss_summary.specs.Filters.{four, full, word, IsFilter}
use Rattle.ss_summary.specs.declared.filter.Filter.{Filter}
use Rattle.ss_codec.specs.Record.{filter_number, is_full, word_spelled}
use Rattle.ss_codec.specs.Decoded.{filter_in, is_filter_spelled}
use Rattle.ss_codec.proofs.FieldLemmas.{part}
use Rattle.ss_codec.proofs.ZeroLemmas.{zeros-words}

is_full-full : is_full full ≡ true
unfolding full
is_full-full = refl

-- a list of four is that of its elements, and all are the greatest word where each is
four_of : (xs : List ℕ) → length xs ≡ 4 → slice_index xs 0 ∷ slice_index xs 1 ∷ slice_index xs 2 ∷ slice_index xs 3 ∷ [] ≡ xs
four_of [] size = absurd (omega arith)
four_of (a ∷ []) size = absurd (omega arith)
four_of (a ∷ b ∷ []) size = absurd (omega arith)
four_of (a ∷ b ∷ c ∷ []) size = absurd (omega arith)
four_of (a ∷ b ∷ c ∷ d ∷ []) size = refl
four_of (a ∷ b ∷ c ∷ d ∷ e ∷ xs) size = absurd (omega arith)

four_greatest : (xs : List ℕ) → length xs ≡ 4 → list_all (λ word. word == 2 ^ 64 - 1) xs ≡ true → xs ≡ replicate 4 (2 ^ 64 - 1)
four_greatest [] size all = absurd (omega arith)
four_greatest (a ∷ []) size all = absurd (omega arith)
four_greatest (a ∷ b ∷ []) size all = absurd (omega arith)
four_greatest (a ∷ b ∷ c ∷ []) size all = absurd (omega arith)
four_greatest (a ∷ b ∷ c ∷ d ∷ []) size all =
    let first : a ≡ 2 ^ 64 - 1 = grind (arith, nat_tests) in
    let second : b ≡ 2 ^ 64 - 1 = grind (arith, nat_tests) in
    let third : c ≡ 2 ^ 64 - 1 = grind (arith, nat_tests) in
    let fourth : d ≡ 2 ^ 64 - 1 = grind (arith, nat_tests) in
    λ i. first i ∷ second i ∷ third i ∷ fourth i ∷ []
four_greatest (a ∷ b ∷ c ∷ d ∷ e ∷ xs) size all = absurd (omega arith)

four-word : (filter : Filter) → length filter.words ≡ 4 → four (word filter) ≡ filter
four-word filter size = λ i. record { words = four_of filter.words size i }

full-is_full : (filter : Filter) → length filter.words ≡ 4 → is_full filter ≡ true → full ≡ filter
unfolding full
full-is_full filter size all = λ i. record { words = sym (four_greatest filter.words size all) i }

-- each word fits its field
pub word_spelled-fits : (filter : Filter) (k : ℕ) → k < 4 → IsFilter filter → word_spelled filter k < 256 ^ 8
word_spelled-fits filter k few is = elim (cases_Bool (is_full filter)) [
  | inl all ↦ rw all (lit< tt)
  | inr some ↦ rw some (omega (arith, is.fit k 0 (omega (arith, few, is.words))))
]

-- the filter whose number and words stand in the bytes is read from there
pub filter_in-numbers : (filter : Filter) (bytes : List ℕ) → IsFilter filter → slice_index bytes 1 ≡ filter_number filter
    → number_at 8 bytes 72 ≡ word_spelled filter 0 → number_at 8 bytes 80 ≡ word_spelled filter 1
    → number_at 8 bytes 88 ≡ word_spelled filter 2 → number_at 8 bytes 96 ≡ word_spelled filter 3 → filter_in bytes ≡ filter
filter_in-numbers filter bytes is kind a b c d = elim (cases_Bool (is_full filter)) [
  | inl all ↦ rw (kind, all) (full-is_full filter is.words all)
  | inr some ↦
      (let first = rw some at a in
      let second = rw some at b in
      let third = rw some at c in
      let fourth = rw some at d in
      rw (kind, some, first, second, third, fourth) (four-word filter is.words))
]

-- the words that stand in the bytes are those of the filter that is read from there, as it is spelled
pub record IsSpelled (bytes : List ℕ) : Type 0 where
  pub number : filter_number (filter_in bytes) ≡ slice_index bytes 1
  pub first : word_spelled (filter_in bytes) 0 ≡ number_at 8 bytes 72
  pub second : word_spelled (filter_in bytes) 1 ≡ number_at 8 bytes 80
  pub third : word_spelled (filter_in bytes) 2 ≡ number_at 8 bytes 88
  pub fourth : word_spelled (filter_in bytes) 3 ≡ number_at 8 bytes 96

number-not_full : (filter : Filter) → filter_number filter ≡ 1 → is_full filter ≡ false
number-not_full filter is = elim (cases_Bool (is_full filter)) [
  | inl all ↦ absurd (let none = rw all at is in omega arith)
  | inr some ↦ some
]

pub IsSpelled-is_filter_spelled : (bytes : List ℕ) → length bytes ≡ 128 → AreBytes bytes → is_filter_spelled bytes ≡ true → IsSpelled bytes
IsSpelled-is_filter_spelled bytes long are test = elim (cases_Bool (slice_index bytes 1 == 1)) [
  | inl words ↦
      (let some : is_full (four (λ k. number_at 8 bytes (72 + 8 * k))) ≡ false = not-true _ (rw words at test) in
      let kind : slice_index bytes 1 ≡ 1 = grind (arith, nat_tests) in
      record {
        number = rw (words, some) (sym kind);
        first = rw (words, some) refl;
        second = rw (words, some) refl;
        third = rw (words, some) refl;
        fourth = rw (words, some) refl;
      })
  | inr zeros ↦
      (let tests = rw zeros at test in
      let kind : slice_index bytes 1 ≡ 0 = grind (arith, nat_tests) in
      let blank = zeros-words bytes long are in
      record {
        number = rw (zeros, is_full-full) (sym kind);
        first = rw (zeros, is_full-full) (grind (arith, nat_tests));
        second = rw (zeros, is_full-full) (grind (arith, nat_tests));
        third = rw (zeros, is_full-full) (grind (arith, nat_tests));
        fourth = rw (zeros, is_full-full) (grind (arith, nat_tests));
      })
]

-- the bytes spell a filter as they should where they have its number and its words, as these are spelled
pub is_filter_spelled-parts : (bytes : List ℕ) → length bytes ≡ 128 → AreBytes bytes → slice_index bytes 1 ≡ filter_number (filter_in bytes)
    → part 8 72 bytes ≡ number_bytes 8 (word_spelled (filter_in bytes) 0) → part 8 80 bytes ≡ number_bytes 8 (word_spelled (filter_in bytes) 1)
    → part 8 88 bytes ≡ number_bytes 8 (word_spelled (filter_in bytes) 2) → part 8 96 bytes ≡ number_bytes 8 (word_spelled (filter_in bytes) 3)
    → is_filter_spelled bytes ≡ true
is_filter_spelled-parts bytes long are kind a b c d = elim (cases_Bool (slice_index bytes 1 == 1)) [
  | inl words ↦
      (let one : slice_index bytes 1 ≡ 1 = grind (arith, nat_tests) in
      let number : filter_number (filter_in bytes) ≡ 1 = sym kind ∙ one in
      let some : is_full (filter_in bytes) ≡ false = number-not_full (filter_in bytes) number in
      let some_here : is_full (four (λ k. number_at 8 bytes (72 + 8 * k))) ≡ false = rw words at some in
      rw (words, some_here) refl)
  | inr zeros ↦
      (let none : slice_index bytes 1 ≡ 0 = rw (zeros, is_full-full) at kind in
      let first = number_at-take 8 72 0 bytes (lit< tt) (rw (zeros, is_full-full) at a) in
      let second = number_at-take 8 80 0 bytes (lit< tt) (rw (zeros, is_full-full) at b) in
      let third = number_at-take 8 88 0 bytes (lit< tt) (rw (zeros, is_full-full) at c) in
      let fourth = number_at-take 8 96 0 bytes (lit< tt) (rw (zeros, is_full-full) at d) in
      let blank = zeros-words bytes long are in
      rw (zeros, none, blank, first, second, third, fourth) refl)
]
