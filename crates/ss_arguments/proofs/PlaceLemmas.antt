-- What the command of three words makes of words that are no options.
use Rattle.std.proofs.Common.{◌≡◌, ◌∙◌, ◌||◌, ℕ, Bool, true, false, List, [], ◌∷◌, Option, None, inl, inr, refl, sym, subst, ap, ap₂}
use Rattle.std.specs.List.{list_any}
use Rattle.std.specs.Option.{option_map_or}
use Rattle.std.specs.Prelude.{codes, option_and_then}
use Rattle.std.specs.Str.{bytes_eq}
use Rattle.std.specs.Str.Parse.{starts_with_minus}
use Rattle.clap.specs.Lexer.{long_of, long_of_rest, short_of, short_of_rest, strip_byte}
use Rattle.clap.specs.Walk.{Held, Row, Rule, Step, Text, Walk, after_step, arg_by_index, finished, first_of, idle, nothing_held, rows_of}
use Rattle.clap.specs.Walk.{to_positional, value, walk, walked, word_met}
use Rattle.clap.specs.Simple.{App, HasMatchesOf, Shape, built, is_simple, matches_of}
use Rattle.clap.specs.Takes.{positional_passes, turn_passes, word_passes}
use Rattle.clap.specs.Faults.{fault_of, is_simple_and_free, positional_fault, stray_fault, turn_fault, walk_fault}
use Rattle.clap.proofs.OnLiterals.{clap_on_literals}
use Rattle.clap.specs.Kinds.{HasKind, IsAmong, or_else}
use Rattle.clap.specs.declared.error.kind.ErrorKind.{ErrorKind}
use Rattle.clap.specs.declared.error.kind.ErrorKind.TheVariants.{OutOfMemory, UnknownArgument}
use Rattle.clap.specs.declared.error.Error.{Error}
use Rattle.clap.specs.declared.parser.matches.ArgMatches.{ArgMatches}
use Rattle.clap.specs.Matches.{first_value, found_of}
use Rattle.clap.specs.Values.{kind_of}
use Rattle.clap.proofs.WalkLemmas.{first_value-rows}
use Rattle.ss_arguments.specs.Modes.{mode_asked}
use Rattle.ss_arguments.specs.Places.{by_place, three_words}
use Rattle.ss_arguments.specs.declared.mode.Mode.{Mode}
use Rattle.ss_arguments.proofs.ModeLemmas.{mode_asked-many}

no_hyphen : (word : Text) → starts_with_minus word ≡ false → strip_byte 45 word ≡ None
no_hyphen [] plain = refl
no_hyphen (x ∷ xs) plain = rw plain refl

no_hyphens : (word : Text) → starts_with_minus word ≡ false → bytes_eq word (45 ∷ 45 ∷ []) ≡ false
no_hyphens [] plain = refl
no_hyphens (x ∷ xs) plain = rw plain refl

no_long : (word : Text) → starts_with_minus word ≡ false → long_of word ≡ None
no_long word plain = ap (λ o. option_and_then long_of_rest (option_and_then (strip_byte 45) o)) (no_hyphen word plain)

no_short : (word : Text) → starts_with_minus word ≡ false → short_of word ≡ None
no_short word plain = ap (option_and_then short_of_rest) (no_hyphen word plain)

-- a walk between two words, where nothing waits for a value
abbrev pub between : Held → ℕ → Walk
between held position = record { held = held; waiting = idle; position = position; is_trailing = false; stopped = None }

-- a word that is no option goes to a place
pub word_met-plain : (rules : List Rule) (position : ℕ) (word : Text) (h : Held) → starts_with_minus word ≡ false →
    word_met rules [] false idle position word h ≡ (h, value)
word_met-plain rules position word h plain = rw (no_hyphens word plain, no_long word plain, no_short word plain) refl

-- and passes
pub word_passes-plain : (s : Shape) (word : Text) (h : Held) → starts_with_minus word ≡ false → word_passes s [] false idle word h ≡ true
word_passes-plain s word h plain = rw (no_hyphens word plain, no_long word plain, no_short word plain) refl

-- the walk after it
pub walked-plain : (rules : List Rule) (h : Held) (position : ℕ) (word : Text) → starts_with_minus word ≡ false
    → walked rules [] (between h position) word ≡ to_positional rules (arg_by_index rules position) word (between h position) h
unfolding walked
walked-plain rules h position word plain = ap (λ (met : Held × Step). after_step rules word (between h position) met.0 met.1)
    (word_met-plain rules position word h plain)

pub turn_passes-plain : (s : Shape) (h : Held) (position : ℕ) (word : Text) → starts_with_minus word ≡ false
    → turn_passes s [] (between h position) word ≡ option_map_or (λ a. positional_passes s.rules s.args_override_self a h) (arg_by_index s.rules position) false
turn_passes-plain s h position word plain = rw (word_met-plain s.rules position word h plain, word_passes-plain s word h plain) refl

pub turn_fault-plain : (s : Shape) (h : Held) (position : ℕ) (word : Text) → starts_with_minus word ≡ false
    → turn_fault s [] (between h position) word ≡ option_map_or (λ a. positional_fault s.rules s.args_override_self a h)
    (arg_by_index s.rules position) (stray_fault s)
turn_fault-plain s h position word plain = rw (no_hyphens word plain, no_long word plain, no_short word plain) refl

-- the command of three words, as it is built
abbrev shape : Shape
shape = (built three_words).top

-- what is held after a word at a place
abbrev held_after : Held → ℕ → Text → Held
held_after h position word = (to_positional shape.rules (arg_by_index shape.rules position) word (between h position) h).held

abbrev held_1 : Text → Held
held_1 a = held_after nothing_held 1 a

abbrev held_2 : Text → Text → Held
held_2 a b = held_after (held_1 a) 2 b

abbrev held_3 : Text → Text → Text → Held
held_3 a b d = held_after (held_2 a b) 3 d

-- the walk, word by word
walk_1 : (a : Text) → starts_with_minus a ≡ false → walk shape.rules [] nothing_held (a ∷ []) ≡ between (held_1 a) 2
walk_1 a plain = walked-plain shape.rules nothing_held 1 a plain

step_2 : (a b : Text) → starts_with_minus b ≡ false → walked shape.rules [] (between (held_1 a) 2) b ≡ between (held_2 a b) 3
step_2 a b plain = walked-plain shape.rules (held_1 a) 2 b plain

step_3 : (a b d : Text) → starts_with_minus d ≡ false → walked shape.rules [] (between (held_2 a b) 3) d ≡ between (held_3 a b d) 4
step_3 a b d plain = walked-plain shape.rules (held_2 a b) 3 d plain

walk_2 : (a b : Text) → starts_with_minus a ≡ false → starts_with_minus b ≡ false → walk shape.rules [] nothing_held (a ∷ b ∷ []) ≡ between (held_2 a b) 3
walk_2 a b plain_a plain_b = ap (λ w. walked shape.rules [] w b) (walk_1 a plain_a) ∙ step_2 a b plain_b

walk_3 : (a b d : Text) → starts_with_minus a ≡ false → starts_with_minus b ≡ false → starts_with_minus d ≡ false
    → walk shape.rules [] nothing_held (a ∷ b ∷ d ∷ []) ≡ between (held_3 a b d) 4
walk_3 a b d plain_a plain_b plain_d = ap (λ w. walked shape.rules [] w d) (walk_2 a b plain_a plain_b) ∙ step_3 a b d plain_d

-- its faults, word by word: none at the first three, and one at a fourth
passes : (h : Held) (position : ℕ) (word : Text) (rest : List Text) (next : Walk) → turn_fault shape [] (between h position) word ≡ []
    → walked shape.rules [] (between h position) word ≡ next → walk_fault shape [] (between h position) (word ∷ rest) ≡ walk_fault shape [] next rest
unfolding walk_fault
passes h position word rest next no_fault is = ap₂ (λ kinds w. or_else kinds (walk_fault shape [] w rest)) no_fault is

passes_1 : (a : Text) (rest : List Text) → starts_with_minus a ≡ false → walk_fault shape [] (between nothing_held 1) (a ∷ rest) ≡ walk_fault shape []
    (between (held_1 a) 2) rest
passes_1 a rest plain = passes nothing_held 1 a rest _ (turn_fault-plain shape nothing_held 1 a plain) (walk_1 a plain)

passes_2 : (a b : Text) (rest : List Text) → starts_with_minus b ≡ false → walk_fault shape [] (between (held_1 a) 2) (b ∷ rest) ≡ walk_fault shape []
    (between (held_2 a b) 3) rest
passes_2 a b rest plain = passes (held_1 a) 2 b rest _ (turn_fault-plain shape (held_1 a) 2 b plain) (step_2 a b plain)

passes_3 : (a b d : Text) (rest : List Text) → starts_with_minus d ≡ false → walk_fault shape [] (between (held_2 a b) 3) (d ∷ rest) ≡ walk_fault
    shape [] (between (held_3 a b d) 4) rest
passes_3 a b d rest plain = passes (held_2 a b) 3 d rest _ (turn_fault-plain shape (held_2 a b) 3 d plain) (step_3 a b d plain)

strays : (a b d e : Text) (rest : List Text) → starts_with_minus e ≡ false → walk_fault shape [] (between (held_3 a b d) 4) (e ∷ rest) ≡ UnknownArgument ∷ []
unfolding walk_fault
strays a b d e rest plain = ap (λ kinds. or_else kinds (walk_fault shape [] (walked shape.rules [] (between (held_3 a b d) 4) e) rest))
    (turn_fault-plain shape (held_3 a b d) 4 e plain)

-- the faults of the whole parse
fault_of-0 : fault_of three_words [] ≡ []
unfolding clap_on_literals
fault_of-0 = refl

fault_of-1 : (a : Text) → starts_with_minus a ≡ false → fault_of three_words (a ∷ []) ≡ []
unfolding clap_on_literals
fault_of-1 a plain = rw (passes_1 a [] plain, walk_1 a plain) refl

fault_of-2 : (a b : Text) → starts_with_minus a ≡ false → starts_with_minus b ≡ false → fault_of three_words (a ∷ b ∷ []) ≡ []
unfolding clap_on_literals
fault_of-2 a b plain_a plain_b = rw (passes_1 a (b ∷ []) plain_a ∙ passes_2 a b [] plain_b, walk_2 a b plain_a plain_b) refl

fault_of-3 : (a b d : Text) → starts_with_minus a ≡ false → starts_with_minus b ≡ false → starts_with_minus d ≡ false →
    fault_of three_words (a ∷ b ∷ d ∷ []) ≡ []
unfolding clap_on_literals
fault_of-3 a b d plain_a plain_b plain_d =
    rw (passes_1 a (b ∷ d ∷ []) plain_a ∙ passes_2 a b (d ∷ []) plain_b ∙ passes_3 a b d [] plain_d, walk_3 a b d plain_a plain_b plain_d) refl

fault_of-many : (a b d e : Text) (rest : List Text) → starts_with_minus a ≡ false → starts_with_minus b ≡ false → starts_with_minus d ≡ false →
    starts_with_minus e ≡ false
    → fault_of three_words (a ∷ b ∷ d ∷ e ∷ rest) ≡ UnknownArgument ∷ []
fault_of-many a b d e rest plain_a plain_b plain_d plain_e =
    rw (passes_1 a (b ∷ d ∷ e ∷ rest) plain_a ∙ passes_2 a b (d ∷ e ∷ rest) plain_b ∙ passes_3 a b d (e ∷ rest) plain_d ∙ strays a b d e rest plain_e) refl

-- the mode by the rows of the matches
abbrev pub mode_by_rows : List Row → Option Mode
mode_by_rows rows = by_place (first_of (codes "mode") rows) (first_of (codes "second") rows) (first_of (codes "third") rows)

-- the mode by what is held after the walk
abbrev mode_by_walk : Walk → Option Mode
mode_by_walk w = mode_by_rows (finished shape.rules w.held)

neither : (p q : Bool) → (p || q) ≡ false → (p ≡ false) × (q ≡ false)
neither false q e = (refl, e)
neither true q e = cc

-- where the command takes the words, its matches ask for what the words ask for
pub mode_asked-taken : (words : List Text) → list_any starts_with_minus words ≡ false → fault_of three_words words ≡ [] →
    mode_by_rows (matches_of three_words words) ≡ mode_asked words
mode_asked-taken [] plain taken = refl
mode_asked-taken (a ∷ []) plain taken =
    let p = neither _ _ plain in
    ap mode_by_walk (walk_1 a p.0)
mode_asked-taken (a ∷ b ∷ []) plain taken =
    let p = neither _ _ plain in
    let q = neither _ _ p.1 in
    ap mode_by_walk (walk_2 a b p.0 q.0)
mode_asked-taken (a ∷ b ∷ d ∷ []) plain taken =
    let p = neither _ _ plain in
    let q = neither _ _ p.1 in
    let r = neither _ _ q.1 in
    ap mode_by_walk (walk_3 a b d p.0 q.0 r.0)
mode_asked-taken (a ∷ b ∷ d ∷ e ∷ rest) plain taken =
    let p = neither _ _ plain in
    let q = neither _ _ p.1 in
    let r = neither _ _ q.1 in
    let t = neither _ _ r.1 in
    let many = fault_of-many a b d e rest p.0 q.0 r.0 t.0 in
    cc

-- where it refuses them, they ask for nothing
pub mode_asked-refused : (words : List Text) (kind : ErrorKind) → list_any starts_with_minus words ≡ false → IsAmong kind (fault_of three_words words) →
    mode_asked words ≡ None
mode_asked-refused [] kind plain among = absurd (rw fault_of-0 at among)
mode_asked-refused (a ∷ []) kind plain among =
    let p = neither _ _ plain in
    absurd (rw (fault_of-1 a p.0) at among)
mode_asked-refused (a ∷ b ∷ []) kind plain among =
    let p = neither _ _ plain in
    let q = neither _ _ p.1 in
    absurd (rw (fault_of-2 a b p.0 q.0) at among)
mode_asked-refused (a ∷ b ∷ d ∷ []) kind plain among =
    let p = neither _ _ plain in
    let q = neither _ _ p.1 in
    let r = neither _ _ q.1 in
    absurd (rw (fault_of-3 a b d p.0 q.0 r.0) at among)
mode_asked-refused (a ∷ b ∷ d ∷ e ∷ rest) kind plain among = mode_asked-many a b d e rest

-- a parse that succeeds, by the values of its matches
pub mode_asked-matches : (app : App) (words : List Text) (matches : ArgMatches) → app ≡ three_words → list_any starts_with_minus words ≡ false
    → (is_simple_and_free app ≡ true → fault_of app words ≡ []) → HasMatchesOf app words matches
    → by_place (first_value (found_of matches) (codes "mode")) (first_value (found_of matches) (codes "second"))
    (first_value (found_of matches) (codes "third")) ≡ mode_asked words
mode_asked-matches app words matches is plain kinds has =
    let rows : rows_of (found_of matches) ≡ matches_of three_words words = (has (ap is_simple is)).0 ∙ ap (λ a. matches_of a words) is in
    let taken : fault_of three_words words ≡ [] = ap (λ a. fault_of a words) (sym is) ∙ kinds (ap is_simple_and_free is) in
    rw (
      first_value-rows (found_of matches) (codes "mode"),
      first_value-rows (found_of matches) (codes "second"),
      first_value-rows (found_of matches)
          (codes "third"),
    )
    (ap mode_by_rows rows ∙ mode_asked-taken words plain taken)

-- a parse that fails, though not by memory
pub mode_asked-error : (app : App) (words : List Text) (error : Error) → app ≡ three_words → list_any starts_with_minus words ≡ false
    → (is_simple_and_free app ≡ true → HasKind (fault_of app words) error) → (kind_of error ≡ OutOfMemory → ⊥) → mode_asked words ≡ None
mode_asked-error app words error is plain kinds other = go (kinds (ap is_simple_and_free is))
  where
    go : HasKind (fault_of app words) error → mode_asked words ≡ None
    go (inl memory) = absurd (other memory)
    go (inr among) = mode_asked-refused words (kind_of error) plain (subst (λ a. IsAmong (kind_of error) (fault_of a words)) is among)
