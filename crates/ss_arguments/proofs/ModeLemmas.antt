-- The mode by the words.
use Rattle.std.proofs.Common.{◌≡◌, ◌^◌, ◌-◌, ◌≤◌, ◌||◌, ℕ, Bool, true, false, cond, List, [], ◌∷◌, length, drop, Option, Some, None, arith, refl, ap}
use Rattle.std.proofs.Common.{eqb-true, slice_index_or, ◌∙◌}
use Rattle.std.specs.List.{list_any}
use Rattle.std.specs.Str.{bytes_eq}
use Rattle.std.specs.Prelude.{codes, option_and_then, String}
use Rattle.std.specs.Bool.{Decides}
use Rattle.std.specs.Borrow.{Bor}
use Rattle.std.specs.Str.Parse.{starts_with_minus}
use Rattle.std.proofs.lemmas.Slice.Eq.{bytes_eq-Decides}
use Rattle.ss_generator.specs.declared.TheConstants.{MOST_COUNT}
use Rattle.ss_arguments.specs.declared.mode.Mode.{Mode}
use Rattle.ss_arguments.specs.declared.mode.Mode.TheVariants.{Serve, Check, Gen}
use Rattle.ss_arguments.specs.declared.mode.Form.TheVariants.{Lines, Sessions, Frames, Follow}
use Rattle.ss_arguments.specs.declared.mode.Form.{Form}
use Rattle.ss_arguments.specs.declared.mode.Sealing.TheVariants.{Each}
use Rattle.ss_arguments.specs.Places.{words_said}
use Rattle.ss_arguments.specs.Modes.{alone, batched, count_of, formed, gen_of, generated, mode_asked, mode_of, sealed, seed_of, with_frames, words_of}
use Rattle.ss_arguments.proofs.NumberLemmas.{number_between-in_range, number_between-option}

-- a word that begins with `-` is none of the words that don't
other_word : (word name : List ℕ) → starts_with_minus name ≡ false → starts_with_minus word ≡ true → bytes_eq word name ≡ false
other_word [] name plain option = cc
other_word (x ∷ xs) [] plain option = refl
other_word (x ∷ xs) (y ∷ ys) plain option =
    let hyphen : x ≡ 45 = eqb-true _ _ option in
    rw hyphen grind (arith)

gen_of-no_count : (seed : Option ℕ) → gen_of seed None ≡ None
gen_of-no_count None = refl
gen_of-no_count (Some seed) = refl

or_false : (b : Bool) → (b || false) ≡ true → b ≡ true
or_false true e = refl
or_false false e = e

either : (P : Option Mode → Type 0) (b : Bool) (mode other : Option Mode) → P mode → P other → P (cond b mode other)
either P true mode other p q = p
either P false mode other p q = q

-- what holds of each mode that words may ask for
by_arms : (P : Option Mode → Type 0) (word : List ℕ) (words : List (List ℕ)) → P (alone (Some (Serve (Lines false) Each)) words)
    → P (alone (Some Check) words) → P (generated words) → P (formed (Sessions false) words) → P (formed Frames words) → P (formed Follow words)
    → P (formed (Lines false) (word ∷ words)) → P (mode_asked (word ∷ words))
by_arms P word words run check gen sessions frames follow lines =
    either P _ _ _ run (either P _ _ _ check (either P _ _ _ gen (either P _ _ _ sessions (either P _ _ _ frames (either P _ _ _ follow lines)))))

-- no mode
abbrev IsNone : Option Mode → Type 0
IsNone mode = mode ≡ None

-- words behind a form of which one begins with `-` seal nothing
sealed-option : (form : Form) (words : List (List ℕ)) → list_any starts_with_minus words ≡ true → sealed form words ≡ None
sealed-option form [] some = cc
sealed-option form (a ∷ []) some = rw (other_word a (codes "batch") refl (or_false _ some)) refl
sealed-option form (a ∷ b ∷ rest) some = refl

framed-option : (form : Option Form) (words : List (List ℕ)) → list_any starts_with_minus words ≡ true
    → option_and_then (λ framed. sealed framed words) form ≡ None
framed-option None words some = refl
framed-option (Some form) words some = sealed-option form words some

formed-option_first : (form : Form) (word : List ℕ) (words : List (List ℕ)) → starts_with_minus word ≡ true → formed form (word ∷ words) ≡ None
formed-option_first form word [] option = rw (other_word word (codes "framed") refl option, other_word word (codes "batch") refl option) refl
formed-option_first form word (next ∷ words) option = rw (other_word word (codes "framed") refl option) refl

formed-option_behind : (form : Form) (word : List ℕ) (words : List (List ℕ)) → list_any starts_with_minus words ≡ true → formed form (word ∷ words) ≡ None
formed-option_behind form word [] some = cc
formed-option_behind form word (next ∷ words) some = either IsNone _ _ _ (framed-option (with_frames form) (next ∷ words) some) refl

formed-option : (form : Form) (words : List (List ℕ)) → list_any starts_with_minus words ≡ true → formed form words ≡ None
formed-option form [] some = cc
formed-option form (word ∷ words) some = by_first _ refl
  where
    by_first : (b : Bool) → starts_with_minus word ≡ b → formed form (word ∷ words) ≡ None
    by_first true option = formed-option_first form word words option
    by_first false plain = formed-option_behind form word words (rw plain at some)

alone-option : (mode : Option Mode) (words : List (List ℕ)) → list_any starts_with_minus words ≡ true → alone mode words ≡ None
alone-option mode [] some = cc
alone-option mode (word ∷ words) some = refl

gen_of-option : (seed count : List ℕ) (p : Bool) → starts_with_minus seed ≡ p → (p || (starts_with_minus count || false)) ≡ true
    → gen_of (seed_of seed) (count_of count) ≡ None
gen_of-option seed count true option some = ap (λ read. gen_of read (count_of count)) (number_between-option 0 (2 ^ 64 - 1) seed option)
gen_of-option seed count false plain some =
    ap (gen_of (seed_of seed)) (number_between-option 1 MOST_COUNT count (or_false _ some)) ∙ gen_of-no_count (seed_of seed)

generated-option : (words : List (List ℕ)) → list_any starts_with_minus words ≡ true → generated words ≡ None
generated-option [] some = refl
generated-option (seed ∷ []) some = refl
generated-option (seed ∷ count ∷ []) some = gen_of-option seed count _ refl some
generated-option (seed ∷ count ∷ next ∷ words) some = refl

-- words of which one begins with `-` ask for nothing
pub mode_asked-option : (words : List (List ℕ)) → list_any starts_with_minus words ≡ true → mode_asked words ≡ None
mode_asked-option [] some = cc
mode_asked-option (word ∷ words) some = by_first _ refl
  where
    by_first : (b : Bool) → starts_with_minus word ≡ b → mode_asked (word ∷ words) ≡ None
    by_first true option = rw (
      other_word word (codes "run") refl option,
      other_word word (codes "check") refl option,
      other_word word (codes "gen") refl option,
      other_word word (codes "sessions") refl option,
      other_word word (codes "frames") refl option,
      other_word word (codes "follow") refl option,
    ) (formed-option_first (Lines false) word words option)
    by_first false plain =
        let behind = rw plain at some in
        by_arms IsNone word words (alone-option _ words behind) (alone-option _ words behind) (generated-option words behind)
        (formed-option (Sessions false) words behind) (formed-option Frames words behind) (formed-option Follow words behind)
        (formed-option_behind (Lines false) word words behind)

-- more than three words ask for nothing
formed-many : (form : Form) (a b d : List ℕ) (rest : List (List ℕ)) → formed form (a ∷ b ∷ d ∷ rest) ≡ None
formed-many form a b d rest = either IsNone _ _ _ (framed-many (with_frames form)) refl
  where
    framed-many : (form : Option Form) → option_and_then (λ framed. sealed framed (b ∷ d ∷ rest)) form ≡ None
    framed-many None = refl
    framed-many (Some form) = refl

pub mode_asked-many : (a b d e : List ℕ) (rest : List (List ℕ)) → mode_asked (a ∷ b ∷ d ∷ e ∷ rest) ≡ None
mode_asked-many a b d e rest = by_arms IsNone a (b ∷ d ∷ e ∷ rest) refl refl refl (formed-many (Sessions false) b d e rest) (formed-many Frames b d e rest)
    (formed-many Follow b d e rest) (formed-many (Lines false) a b d (e ∷ rest))

-- so do all the words, where it stands after the path
pub mode_of-option : (words : List (List ℕ)) → list_any starts_with_minus (drop 2 words) ≡ true → mode_of words ≡ None
mode_of-option [] some = refl
mode_of-option (program ∷ []) some = refl
mode_of-option (program ∷ path ∷ arguments) some = mode_asked-option arguments some

-- the numbers of `gen` are in their ranges
abbrev pub AreInRange : ℕ → ℕ → Type 0
AreInRange seed count = (seed ≤ 2 ^ 64 - 1) × (1 ≤ count) × (count ≤ MOST_COUNT)

gen_of-in_range : (seed_word count_word : List ℕ) (s k : Option ℕ) (seed count : ℕ) → seed_of seed_word ≡ s → count_of count_word ≡ k →
    gen_of s k ≡ Some (Gen seed count) → AreInRange seed count
gen_of-in_range seed_word count_word None k seed count es ek e = cc
gen_of-in_range seed_word count_word (Some s) None seed count es ek e = cc
gen_of-in_range seed_word count_word (Some s) (Some k) seed count es ek e =
    let same_seed : s ≡ seed = cc in
    let same_count : k ≡ count = cc in
    let seeds = number_between-in_range 0 (2 ^ 64 - 1) seed_word s es in
    let counts = number_between-in_range 1 MOST_COUNT count_word k ek in
    (omega arith, omega arith, omega arith)

-- a mode that is none of a generated file, or of one in range
abbrev pub IsInRange : Option Mode → Type 0
IsInRange mode = (seed count : ℕ) → mode ≡ Some (Gen seed count) → AreInRange seed count

sealed-gen : (form : Form) (words : List (List ℕ)) → IsInRange (sealed form words)
sealed-gen form [] seed count e = cc
sealed-gen form (word ∷ []) seed count e = by_word _ e
  where
    by_word : (b : Bool) → cond b (batched form) None ≡ Some (Gen seed count) → AreInRange seed count
    by_word true e = cc
    by_word false e = cc
sealed-gen form (word ∷ next ∷ words) seed count e = cc

framed-gen : (form : Option Form) (words : List (List ℕ)) → IsInRange (option_and_then (λ framed. sealed framed words) form)
framed-gen None words seed count e = cc
framed-gen (Some form) words seed count e = sealed-gen form words seed count e

formed-gen : (form : Form) (words : List (List ℕ)) → IsInRange (formed form words)
formed-gen form [] = sealed-gen form []
formed-gen form (word ∷ words) = either IsInRange _ _ _ (framed-gen (with_frames form) words) (sealed-gen form (word ∷ words))

alone-gen : (mode : Option Mode) (words : List (List ℕ)) → IsInRange mode → IsInRange (alone mode words)
alone-gen mode [] none = none
alone-gen mode (word ∷ words) none = λ seed count e. cc

generated-gen : (words : List (List ℕ)) → IsInRange (generated words)
generated-gen [] seed count e = cc
generated-gen (s ∷ []) seed count e = cc
generated-gen (s ∷ k ∷ []) seed count e = gen_of-in_range s k _ _ seed count refl refl e
generated-gen (s ∷ k ∷ next ∷ words) seed count e = cc

mode_asked-gen : (words : List (List ℕ)) → IsInRange (mode_asked words)
mode_asked-gen [] = formed-gen (Lines false) []
mode_asked-gen (word ∷ words) =
    by_arms IsInRange word words (alone-gen _ words (λ seed count e. cc)) (alone-gen _ words (λ seed count e. cc)) (generated-gen words)
    (formed-gen (Sessions false) words) (formed-gen Frames words) (formed-gen Follow words) (formed-gen (Lines false) (word ∷ words))

pub mode_of-gen : (words : List (List ℕ)) (seed count : ℕ) → mode_of words ≡ Some (Gen seed count) → AreInRange seed count
mode_of-gen [] seed count e = cc
mode_of-gen (program ∷ []) seed count e = cc
mode_of-gen (program ∷ path ∷ arguments) seed count e = mode_asked-gen arguments seed count e

-- the mode by what stands after the path
pub mode_of-drop : {A : Type 0} (words : List (String A)) → 2 ≤ length words → mode_of (words_of words) ≡ mode_asked (words_of (drop 2 words))
mode_of-drop [] some = absurd (omega arith)
mode_of-drop (program ∷ []) some = absurd (omega arith)
mode_of-drop (program ∷ path ∷ arguments) some = refl

-- two words that differ are told apart
differ : (a b : List ℕ) → (a ≡ b → ⊥) → bytes_eq a b ≡ false
differ a b other = by_answer _ (bytes_eq-Decides a b)
  where
    by_answer : (is : Bool) → Decides is (a ≡ b) → is ≡ false
    by_answer false decides = refl
    by_answer true decides = absurd (other (decides.0 refl))

-- the first of borrowed words
abbrev first_said : Bor (List ℕ) → List (Bor (List ℕ)) → List ℕ
first_said default words = (slice_index_or words 0 default).now

-- one word that isn't `batch` seals nothing
pub sealed-other : (form : Form) (default : Bor (List ℕ)) (words : List (Bor (List ℕ))) → length words ≡ 1 → (first_said default words ≡ codes "batch" → ⊥)
    → sealed form (words_said words) ≡ None
sealed-other form default [] one other = absurd (omega arith)
sealed-other form default (word ∷ []) one other = rw (differ word.now (codes "batch") other) refl
sealed-other form default (word ∷ next ∷ words) one other = absurd (omega arith)

-- words of which the first isn't `framed` are those of the form without frames
pub formed-other : (form : Form) (default : Bor (List ℕ)) (words : List (Bor (List ℕ))) → 1 ≤ length words
    → (first_said default words ≡ codes "framed" → ⊥) → formed form (words_said words) ≡ sealed form (words_said words)
formed-other form default [] some other = absurd (omega arith)
formed-other form default (word ∷ words) some other = rw (differ word.now (codes "framed") other) refl

-- words of which the first is none of the modes and forms are those of lines
pub mode_asked-other : (default : Bor (List ℕ)) (words : List (Bor (List ℕ))) → 1 ≤ length words
    → (first_said default words ≡ codes "run" → ⊥) → (first_said default words ≡ codes "check" → ⊥) → (first_said default words ≡ codes "gen" → ⊥)
    → (first_said default words ≡ codes "sessions" → ⊥) → (first_said default words ≡ codes "frames" → ⊥)
    → (first_said default words ≡ codes "follow" → ⊥) → mode_asked (words_said words) ≡ formed (Lines false) (words_said words)
mode_asked-other default [] some run check gen sessions frames follow = absurd (omega arith)
mode_asked-other default (word ∷ words) some run check gen sessions frames follow = rw (
  differ word.now (codes "run") run,
  differ word.now (codes "check") check,
  differ word.now (codes "gen") gen,
  differ word.now (codes "sessions") sessions,
  differ word.now (codes "frames") frames,
  differ word.now (codes "follow") follow,
) refl
