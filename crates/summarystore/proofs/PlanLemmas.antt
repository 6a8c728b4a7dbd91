-- Options are taken off the words one by one.
use Rattle.std.proofs.Common.{◌≡◌, ◌∙◌, ◌<◌, ◌≤◌, ◌||◌, if◌then◌else◌, nat_lt, true, false, Bool, ℕ, arith, length, sym}
use Rattle.std.proofs.Common.{List, [], ◌∷◌, ◌++◌, Some, None, drop, take, refl, ap}
use Rattle.std.proofs.lemmas.Bool.{le-ltb}
use Rattle.std.proofs.lemmas.List.{drop-map, length-map, map-append, take-map}
use Rattle.std.specs.List.{insert, remove}
use Rattle.std.specs.Option.{option_map_or}
use Rattle.std.specs.Prelude.{String, string_bytes}
use Rattle.ss_arguments.specs.Modes.{words_of}
use Rattle.summarystore.specs.Plan.{behind_options, first_switch, is_last, options_from, with_switch, with_word}
use Rattle.summarystore.specs.declared.options.Options.{Options}
use Rattle.summarystore.specs.declared.options.Switch.{Switch}

-- an option that is taken off is met
pub options_from-remove : {Z : Type 0} (words : List (String Z)) (options : Options) (switch : Switch) → first_switch (words_of words) ≡ Some switch →
    options_from options (drop 1 (words_of words)) ≡ options_from (with_switch options switch) (drop 1 (words_of (remove words 1)))
options_from-remove [] options switch is = cc
options_from-remove (program ∷ []) options switch is = cc
options_from-remove (program ∷ word ∷ rest) options switch is =
    ap (λ met. option_map_or (λ s. options_from (with_switch options s) (words_of rest)) met options) is

-- and what stands behind the options stays
pub behind_options-remove : {Z : Type 0} (words : List (String Z)) (switch : Switch) → first_switch (words_of words) ≡ Some switch →
    take 1 (words_of words) ++ behind_options (drop 1 (words_of words))
    ≡ take 1 (words_of (remove words 1)) ++ behind_options (drop 1 (words_of (remove words 1)))
behind_options-remove [] switch is = cc
behind_options-remove (program ∷ []) switch is = cc
behind_options-remove (program ∷ word ∷ rest) switch is =
    ap (λ met. string_bytes program ∷ option_map_or (λ s. behind_options (words_of rest)) met (string_bytes word ∷ words_of rest)) is

-- where none is left, all were met
pub options_from-none : {Z : Type 0} (words : List (String Z)) (options : Options) → first_switch (words_of words) ≡ None →
    options_from options (drop 1 (words_of words)) ≡ options
options_from-none [] options is = refl
options_from-none (program ∷ []) options is = refl
options_from-none (program ∷ word ∷ rest) options is =
    ap (λ met. option_map_or (λ s. options_from (with_switch options s) (words_of rest)) met options) is

pub behind_options-none : {Z : Type 0} (words : List (String Z)) → first_switch (words_of words) ≡ None →
    take 1 (words_of words) ++ behind_options (drop 1 (words_of words)) ≡ words_of words
behind_options-none [] is = refl
behind_options-none (program ∷ []) is = refl
behind_options-none (program ∷ word ∷ rest) is =
    ap (λ met. string_bytes program ∷ option_map_or (λ s. behind_options (words_of rest)) met (string_bytes word ∷ words_of rest)) is

-- the front of the words is that of what they spell
pub words_of-take : {Z : Type 0} (words : List (String Z)) → words_of (take 1 words) ≡ take 1 (words_of words)
words_of-take [] = refl
words_of-take (word ∷ rest) = refl

pub words_of-take_two : {Z : Type 0} (words : List (String Z)) → words_of (take 2 words) ≡ take 2 (words_of words)
words_of-take_two [] = refl
words_of-take_two (word ∷ []) = refl
words_of-take_two (word ∷ other ∷ rest) = refl

-- the front of words is that of what they spell
pub words_of-front : {Z : Type 0} (words : List (String Z)) (place : ℕ) → words_of (take place words) ≡ take place (words_of words)
words_of-front words place = sym (take-map (λ word. string_bytes word) place words)

-- a word that is put among others stands among what they spell
pub words_of-insert : {Z : Type 0} (words : List (String Z)) (place : ℕ) (word : String Z) →
    words_of (insert words place word) ≡ insert (words_of words) place (string_bytes word)
words_of-insert words place word =
    map-append (λ text. string_bytes text) (take place words) (word ∷ drop place words)
    ∙ rw (← words_of-front words place, drop-map) refl

-- of two lists the first where a test passes or another one, and the second where neither does
first_of : (few last : Bool) (a b : List (List ℕ)) → last ≡ true → (if few || last then a else b) ≡ a
first_of true last a b is = refl
first_of false true a b is = refl
first_of false false a b is = cc

second_of : (few last : Bool) (a b : List (List ℕ)) → few ≡ false → last ≡ false → (if few || last then a else b) ≡ b
second_of true last a b many other = cc
second_of false true a b many other = cc
second_of false false a b many other = refl

-- where no path is among words, or the word stands there already, they stay
pub with_word-few : {Z : Type 0} (place : ℕ) (word : List ℕ) (words : List (String Z)) → length words < 2 →
    words_of words ≡ with_word place word (words_of words)
with_word-few place word [] few = refl
with_word-few place word (program ∷ []) few = refl
with_word-few place word (program ∷ path ∷ rest) few = absurd (omega arith)

pub with_word-there : {Z : Type 0} (place : ℕ) (word : List ℕ) (words : List (String Z)) → is_last word (words_of (take place words)) ≡ true →
    words_of words ≡ with_word place word (words_of words)
with_word-there place word words there =
    sym (first_of (nat_lt (length (words_of words)) 2) (is_last word (take place (words_of words))) _ _
    (sym (ap (λ front. is_last word front) (words_of-front words place)) ∙ there))

-- and else it is put there
pub with_word-put : {Z : Type 0} (place : ℕ) (word : List ℕ) (words : List (String Z)) (text : String Z) → 2 ≤ length words →
    is_last word (words_of (take place words)) ≡ false → string_bytes text ≡ word →
    words_of (insert words place text) ≡ with_word place word (words_of words)
with_word-put place word words text enough absent spells =
    let long : 2 ≤ length (words_of words) = omega (arith, length-map words (λ text. string_bytes text)) in
    words_of-insert words place text ∙ ap (λ bytes. insert (words_of words) place bytes) spells ∙
    sym (second_of (nat_lt (length (words_of words)) 2) (is_last word (take place (words_of words))) _ _ (le-ltb (length (words_of words)) 2 long)
    (sym (ap (λ front. is_last word front) (words_of-front words place)) ∙ absent))
