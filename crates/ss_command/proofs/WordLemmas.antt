-- Words stand between blanks.
use Rattle.std.proofs.Common.{◌≡◌, ℕ, suc, zero, ◌<◌, ◌≤◌, true, false, Bool, List, [], ◌∷◌, ◌++◌, length, take, drop, get_or, arith, refl, ap, sym}
use Rattle.std.proofs.Common.{◌∙◌, ⊎_elim, take-append-drop, drop-cons, None, position, not}
use Rattle.std.proofs.lemmas.Bool.{cases_Bool}
use Rattle.std.proofs.lemmas.Bool.Decides.{nat_tests}
use Rattle.std.proofs.lemmas.List.{drop_all, get_or-take, length-take-le}
use Rattle.std.proofs.lemmas.List.Elements.{All-from_get_or, filter-append}
use Rattle.std.proofs.lemmas.List.Splits.{slice_split-cons_no, slice_split-cons_yes, slice_split_none}
use Rattle.std.proofs.lemmas.List.Sums.{fails_before_first, prefix_len-le-length}
use Rattle.std.specs.List.{All, filter, onto_first, position_or_len, slice_split}
use Rattle.ss_command.specs.Words.{is_blank, is_some_word, words}

-- a list of lists that has one at least
abbrev HasParts : List (List ℕ) → Type 0
HasParts parts = (part : List ℕ) × (rest : List (List ℕ)) × (parts ≡ part ∷ rest)

has_parts : (xs : List ℕ) → HasParts (slice_split is_blank xs)
has_parts [] = ([], [], refl)
has_parts (x ∷ xs) =
    let rest = has_parts xs in
    ⊎_elim
    (λ yes. ([], slice_split is_blank xs, slice_split-cons_yes is_blank x xs yes))
    (λ no. (x ∷ rest.0, rest.1, slice_split-cons_no is_blank x xs no ∙ ap (onto_first x) rest.2))
    (cases_Bool (is_blank x))

onto_first-append : (x : ℕ) (parts more : List (List ℕ)) → HasParts parts → onto_first x (parts ++ more) ≡ onto_first x parts ++ more
onto_first-append x [] more some = cc (some.2)
onto_first-append x (part ∷ parts) more some = refl

-- a blank cuts what stands before it from what stands after it
slice_split-blank : (xs : List ℕ) (b : ℕ) (ys : List ℕ) → is_blank b ≡ true → slice_split is_blank (xs ++ b ∷ ys) ≡ slice_split is_blank xs ++
    slice_split is_blank ys
slice_split-blank [] b ys blank = slice_split-cons_yes is_blank b ys blank
slice_split-blank (x ∷ xs) b ys blank =
    let rest = slice_split-blank xs b ys blank in
    ⊎_elim
    (λ yes. slice_split-cons_yes is_blank x (xs ++ b ∷ ys) yes ∙ ap (λ parts. [] ∷ parts) rest ∙
    ap (λ parts. parts ++ slice_split is_blank ys) (sym (slice_split-cons_yes is_blank x xs yes)))
    (λ no. slice_split-cons_no is_blank x (xs ++ b ∷ ys) no ∙ ap (onto_first x) rest ∙
    onto_first-append x (slice_split is_blank xs) (slice_split is_blank ys) (has_parts xs) ∙
    ap (λ parts. parts ++ slice_split is_blank ys) (sym (slice_split-cons_no is_blank x xs no)))
    (cases_Bool (is_blank x))

-- the words on both sides of a blank are those of each side
pub words-blank : (before after : List ℕ) (b : ℕ) → is_blank b ≡ true → words (before ++ b ∷ after) ≡ words before ++ words after
unfolding words
words-blank before after b blank =
    ap (filter is_some_word) (slice_split-blank before b after blank) ∙ filter-append is_some_word (slice_split is_blank before) (slice_split is_blank after)

-- some bytes without a blank are one word
pub words-one : (word : List ℕ) → 0 < length word → All (λ b. is_blank b ≡ false) word → words word ≡ word ∷ []
unfolding words
words-one word some none =
    rw (slice_split_none is_blank word none) (grind (arith, nat_tests))

-- nothing has no words
pub words-nil : words [] ≡ []
unfolding words
words-nil = refl

-- a blank in front is no part of a word
words-cons_blank : (b : ℕ) (rest : List ℕ) → is_blank b ≡ true → words (b ∷ rest) ≡ words rest
words-cons_blank b rest blank = words-blank [] rest b blank ∙ ap (λ ws. ws ++ words rest) words-nil

-- so are blanks
pub words-drop_blanks : (n : ℕ) (line : List ℕ) → ((k : ℕ) → k < n → is_blank (get_or line k 0) ≡ true) → n ≤ length line → words line ≡ words (drop n line)
words-drop_blanks zero line blank inside = refl
words-drop_blanks (suc n) [] blank inside = absurd (omega arith)
words-drop_blanks (suc n) (b ∷ bs) blank inside =
    words-cons_blank b bs (blank 0 (omega arith)) ∙ words-drop_blanks n bs (λ k below. blank (suc k) (omega arith)) (omega arith)

-- a line of blanks has no words
pub words-blanks : (line : List ℕ) → ((k : ℕ) → k < length line → is_blank (get_or line k 0) ≡ true) → words line ≡ []
words-blanks line blank =
    words-drop_blanks (length line) line blank (omega arith) ∙ ap words (drop_all (length line) line (omega arith)) ∙ words-nil

-- the bytes before the first blank are the first word
pub words-first : (line : List ℕ) (n : ℕ) → 0 < n → n < length line → ((k : ℕ) → k < n → is_blank (get_or line k 0) ≡ false) →
    is_blank (get_or line n 0) ≡ true → words line ≡ take n line ∷ words (drop n line)
words-first line n some inside plain blank =
    let rest = drop-cons line n 0 inside in
    let long = length-take-le n line (omega arith) in
    let word = words-one (take n line) (omega arith)
    (All-from_get_or (λ b. is_blank b ≡ false) (take n line) 0 (λ k below. let below_n : k < n = omega arith in
    rw (get_or-take n line k 0 below_n) (plain k below_n))) in
    let cut : words line ≡ words (take n line ++ get_or line n 0 ∷ drop (suc n) line) =
    ap words (sym (take-append-drop n line) ∙ ap (λ back. take n line ++ back) rest) in
    cut ∙ words-blank (take n line) (drop (suc n) line) (get_or line n 0) blank ∙ ap (λ ws. ws ++ words (drop (suc n) line)) word ∙
    ap (λ ws. take n line ∷ ws) (sym (ap words rest ∙ words-cons_blank (get_or line n 0) (drop (suc n) line) blank))

-- where none stands, all bytes are one word
pub words-last : (line : List ℕ) → 0 < length line → ((k : ℕ) → k < length line → is_blank (get_or line k 0) ≡ false) → words line ≡ line ∷ []
words-last line some plain = words-one line some (All-from_get_or (λ b. is_blank b ≡ false) line 0 plain)

-- where no byte passes, each fails
pub position-None : (p : ℕ → Bool) (xs : List ℕ) → position p xs ≡ None → (k : ℕ) → k < length xs → p (get_or xs k 0) ≡ false
position-None p xs none k inside =
    let small = prefix_len-le-length (λ x. not (p x)) xs in
    let past : length xs ≤ position_or_len p xs = grind (arith, nat_tests) in
    fails_before_first p xs k 0 (omega arith)
