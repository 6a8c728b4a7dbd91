-- Words with one space between them, and what they read back as.
use Rattle.std.proofs.Common.{◌≡◌, ℕ, suc, ◌+◌, ◌-◌, ◌^◌, ◌<◌, ◌≤◌, true, false, Bool, List, [], ◌∷◌, ◌++◌, length, get_or, Ok, arith, refl, ap}
use Rattle.std.proofs.Common.{sym, ◌∙◌, append_assoc, nat_lt, ◌&&◌, not}
use Rattle.std.proofs.lemmas.Bool.Decides.{nat_tests}
use Rattle.std.proofs.lemmas.Fmt.{decimal_is_IsNumeral}
use Rattle.std.proofs.lemmas.List.{append-nil, get_or_append_left}
use Rattle.std.proofs.lemmas.List.Elements.{All-cons, All-from_get_or}
use Rattle.std.proofs.lemmas.List.Sums.{AllPass-from_list_all}
use Rattle.std.proofs.lemmas.Str.Parse.{digit_at}
use Rattle.std.specs.Prelude.{ℤ, pos, negsuc, FitsSigned}
use Rattle.std.specs.Fmt.{decimal, signed_decimal}
use Rattle.std.specs.Int.{w64}
use Rattle.std.specs.List.{All, list_all}
use Rattle.ss_fields.proofs.WordLemmas.{signed_of-signed_decimal, unsigned_of-decimal}
use Rattle.ss_catalog.specs.Names.{is_name, is_name_byte}
use Rattle.ss_base.specs.declared.limits.TheConstants.{LAST_TIME}
use Rattle.ss_command.proofs.GrammarLemmas.{meaning-words}
use Rattle.ss_command.proofs.NumberLemmas.{or_number-Ok}
use Rattle.ss_command.proofs.PutLemmas.{length-with_word}
use Rattle.ss_command.proofs.WordLemmas.{words-blank, words-one}
use Rattle.ss_command.specs.Grammar.{is_comment, meaning, meaning_of_words, name_of, or_number, parameter_of, time_of}
use Rattle.ss_command.specs.Grammar.{value_of}
use Rattle.ss_command.specs.Printed.{spaced, with_word}
use Rattle.ss_command.specs.Words.{is_blank, words}

false_from_not : (b : Bool) → not b ≡ true → b ≡ false
false_from_not true e = cc
false_from_not false e = cc

-- a word: some bytes, none of which is a blank
pub record IsWord (word : List ℕ) : Type 0 where
  pub some : 0 < length word
  pub plain : All (λ b. is_blank b ≡ false) word

abbrev pub AreWords : List (List ℕ) → Type 0
AreWords [] = Unit {0}
AreWords (word ∷ rest) = IsWord word × AreWords rest

-- what is put after a space is one word more
words-with_word : (text word : List ℕ) → IsWord word → words (with_word text word) ≡ words text ++ word ∷ []
words-with_word text word is = words-blank text word 32 refl ∙ ap (λ ws. words text ++ ws) (words-one word is.some is.plain)

words-put : (rest : List (List ℕ)) (text : List ℕ) → AreWords rest → words (spaced text rest) ≡ words text ++ rest
words-put [] text all = sym (append-nil (words text))
words-put (word ∷ rest) text all =
    words-put rest (with_word text word) all.1 ∙ ap (λ ws. ws ++ rest) (words-with_word text word all.0) ∙ append_assoc (words text) (word ∷ []) rest

-- words with one space between them are those words
pub words-spaced : (first : List ℕ) (rest : List (List ℕ)) → IsWord first → AreWords rest → words (spaced first rest) ≡ first ∷ rest
words-spaced first rest is all = words-put rest first all ∙ ap (λ ws. ws ++ rest) (words-one first is.some is.plain)

-- they begin as the first of them
first-spaced : (rest : List (List ℕ)) (text : List ℕ) → 0 < length text → get_or (spaced text rest) 0 0 ≡ get_or text 0 0
first-spaced [] text some = refl
first-spaced (word ∷ rest) text some =
    first-spaced rest (with_word text word) (omega (arith, length-with_word text word)) ∙ get_or_append_left text (32 ∷ word) 0 0 some

-- the digits of a number are a word
digit-plain : (b : ℕ) → 48 ≤ b → b ≤ 57 → is_blank b ≡ false
digit-plain b low high = grind (arith, nat_tests)

pub IsWord-decimal : (n : ℕ) → n < 2 ^ 64 → IsWord (decimal n)
IsWord-decimal n small =
    let numeral = (decimal_is_IsNumeral n small).0 in
    record {
      some = numeral.0;
      plain = All-from_get_or (λ b. is_blank b ≡ false) (decimal n) 0 (λ k inside. let digit = digit_at (decimal n) k numeral.1 inside in
          digit-plain (get_or (decimal n) k 0) (omega arith) (omega arith));
    }

-- so is a value
pub IsWord-signed : (v : ℤ) → FitsSigned w64 v → IsWord (signed_decimal v)
IsWord-signed (pos n) fits = IsWord-decimal n (omega (arith, fits.sfits))
IsWord-signed (negsuc n) fits =
    let digits = IsWord-decimal (suc n) (omega (arith, fits.sfits)) in
    record { some = omega arith; plain = All-cons (λ b. is_blank b ≡ false) 45 (decimal (suc n)) refl digits.plain }

-- and a name
name_byte-plain : (b : ℕ) → is_name_byte b ≡ true → is_blank b ≡ false
name_byte-plain b may = grind (arith, nat_tests)

pub IsWord-name : (name : List ℕ) → is_name name ≡ true → IsWord name
unfolding is_name
IsWord-name name is =
    let all : list_all is_name_byte name ≡ true = grind (arith, nat_tests) in
    record {
      some = grind (arith, nat_tests);
      plain = All-from_get_or (λ b. is_blank b ≡ false) name 0
          (λ k inside. name_byte-plain (get_or name k 0) (AllPass-from_list_all is_name_byte name all k 0 inside));
    }

-- what was printed reads back
pub parameter_of-decimal : (n : ℕ) → n < 2 ^ 32 → parameter_of (decimal n) ≡ Ok n
parameter_of-decimal n small = or_number-Ok (2 ^ 32 - 1) n (decimal n) (unsigned_of-decimal n (omega arith)) (omega arith)

pub time_of-decimal : (t : ℕ) → t ≤ LAST_TIME → time_of (decimal t) ≡ Ok t
time_of-decimal t small = or_number-Ok LAST_TIME t (decimal t) (unsigned_of-decimal t (omega arith)) small

pub value_of-signed : (v : ℤ) → FitsSigned w64 v → value_of (signed_decimal v) ≡ Ok v
value_of-signed v fits = ap or_number (signed_of-signed_decimal v fits)

pub name_of-name : (name : List ℕ) → is_name name ≡ true → name_of name ≡ Ok name
name_of-name name is = rw is refl

-- a printed line means what its words do
pub meaning-spaced : (first : List ℕ) (rest : List (List ℕ)) → IsWord first → AreWords rest → length (spaced first rest) ≤ 256 →
    is_comment first ≡ false → meaning (spaced first rest) ≡ meaning_of_words (first ∷ rest)
meaning-spaced first rest is all short plain =
    meaning-words (spaced first rest) (first ∷ rest) short (rw (first-spaced rest first is.some) plain) (words-spaced first rest is all)

-- how long words with spaces are
abbrev pub width : List (List ℕ) → ℕ
width [] = 0
width (word ∷ rest) = 1 + length word + width rest

pub length-spaced : (rest : List (List ℕ)) (text : List ℕ) → length (spaced text rest) ≡ length text + width rest
length-spaced [] text = omega arith
length-spaced (word ∷ rest) text = omega (arith, length-spaced rest (with_word text word), length-with_word text word)

-- a word of the program's own
pub literal : (word : List ℕ) → (nat_lt 0 (length word) && list_all (λ b. not (is_blank b)) word) ≡ true → IsWord word
literal word is =
    let all : list_all (λ b. not (is_blank b)) word ≡ true = grind (arith, nat_tests) in
    record {
      some = grind (arith, nat_tests);
      plain = All-from_get_or (λ b. is_blank b ≡ false) word 0
          (λ k inside. false_from_not (is_blank (get_or word k 0)) (AllPass-from_list_all (λ b. not (is_blank b)) word all k 0 inside));
    }
