-- The modes of the program, by the words of the command line.
use Rattle.std.specs.Prelude.{ℕ, ◌-◌, ◌^◌, nat_le, if◌then◌else◌, Bool, true, false, List, [], ◌∷◌, length, map, codes, Option, Some, None, Result, Ok, Err}
use Rattle.std.specs.Prelude.{String, string_bytes, option_and_then}
use Rattle.std.specs.List.{list_any}
use Rattle.std.specs.Str.{bytes_eq}
use Rattle.std.specs.Str.Parse.{starts_with_minus}
use Rattle.ss_fields.specs.Words.{number_up_to}
use Rattle.ss_fields.specs.declared.number_error.NumberError.{NumberError}
use Rattle.ss_generator.specs.declared.TheConstants.{MOST_COUNT}
use Rattle.ss_arguments.specs.declared.TheConstants.{MOST_DIGITS}
use Rattle.ss_arguments.specs.declared.mode.Form.{Form}
use Rattle.ss_arguments.specs.declared.mode.Mode.{Mode}
use Rattle.ss_arguments.specs.declared.mode.Mode.TheVariants.{Serve, Check, Gen}
use Rattle.ss_arguments.specs.declared.mode.Form.TheVariants.{Lines, Sessions, Frames, Follow}
use Rattle.ss_arguments.specs.declared.mode.Sealing.TheVariants.{Each, Shared}

-- the words, as lists of bytes
abbrev pub words_of : {A : Type 0} → List (String A) → List (List ℕ)
words_of words = map (λ word. string_bytes word) words

-- what was read, where it is a number from `least` on
abbrev pub from_least : ℕ → Result ℕ NumberError → Option ℕ
from_least least (Ok n) = if nat_le least n then Some n else None
from_least least (Err e) = None

-- the number from `least` to `most` that a word spells with 1 to MOST_DIGITS digits
unfoldable pub number_between : ℕ → ℕ → List ℕ → Option ℕ
number_between least most word =
    if nat_le (length word) MOST_DIGITS then from_least least (number_up_to most word) else None

-- a seed: 0 to 2^64 - 1
abbrev pub seed_of : List ℕ → Option ℕ
seed_of word = number_between 0 (2 ^ 64 - 1) word

-- a count: 1 to MOST_COUNT
abbrev pub count_of : List ℕ → Option ℕ
count_of word = number_between 1 MOST_COUNT word

-- `gen`, where both its numbers were read
abbrev pub gen_of : Option ℕ → Option ℕ → Option Mode
gen_of (Some seed) (Some count) = Some (Gen seed count)
gen_of _ _ = None

-- a run over the source that seals each event by itself, and one where events that come together share their seals
abbrev pub plain : Form → Option Mode
plain form = Some (Serve form Each)

abbrev pub batched : Form → Option Mode
batched form = Some (Serve form Shared)

-- the same form with the frame of each accepted event behind its reply, where it has replies
abbrev pub with_frames : Form → Option Form
with_frames (Lines framed) = Some (Lines true)
with_frames (Sessions framed) = Some (Sessions true)
with_frames Frames = None
with_frames Follow = None

-- a form, and how its events are sealed by the words behind it: none, or `batch`
abbrev pub sealed : Form → List (List ℕ) → Option Mode
sealed form [] = plain form
sealed form (word ∷ []) = if bytes_eq word (codes "batch") then batched form else None
sealed form _ = None

-- a form with the words behind it: `framed` or not, and how its events are sealed
abbrev pub formed : Form → List (List ℕ) → Option Mode
formed form [] = sealed form []
formed form (word ∷ words) =
    if bytes_eq word (codes "framed") then option_and_then (λ framed. sealed framed words) (with_frames form) else sealed form (word ∷ words)

-- a mode whose word stands alone
abbrev pub alone : Option Mode → List (List ℕ) → Option Mode
alone mode [] = mode
alone mode _ = None

-- `gen` with its two numbers
abbrev pub generated : List (List ℕ) → Option Mode
generated (seed ∷ count ∷ []) = gen_of (seed_of seed) (count_of count)
generated _ = None

-- the mode by what stands after the path: `run`, `check`, `gen SEED COUNT`, or the word of a form (of lines: none) with the words behind it
abbrev pub mode_asked : List (List ℕ) → Option Mode
mode_asked [] = formed (Lines false) []
mode_asked (word ∷ words) =
    if bytes_eq word (codes "run") then alone (plain (Lines false)) words
    else (if bytes_eq word (codes "check") then alone (Some Check) words
    else (if bytes_eq word (codes "gen") then generated words
    else (if bytes_eq word (codes "sessions") then formed (Sessions false) words
    else (if bytes_eq word (codes "frames") then formed Frames words
    else (if bytes_eq word (codes "follow") then formed Follow words
    else formed (Lines false) (word ∷ words))))))

-- the mode by all the words: the program's name, the store's path, and what asks for a mode
abbrev pub mode_of : List (List ℕ) → Option Mode
mode_of (program ∷ path ∷ arguments) = mode_asked arguments
mode_of _ = None

-- whether the words are refused at a glance: no path stands among them, or a word after it begins with `-`
abbrev pub are_refused_at_once : List (List ℕ) → Bool
are_refused_at_once (program ∷ path ∷ arguments) = list_any starts_with_minus arguments
are_refused_at_once _ = true
