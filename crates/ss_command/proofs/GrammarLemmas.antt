-- What lines mean.
use Rattle.std.proofs.Common.{◌≡◌, ℕ, ◌<◌, ◌≤◌, true, false, List, length, Ok, Err, None, refl}
use Rattle.std.proofs.lemmas.Bool.{lt-ltb, le-ltb}
use Rattle.ss_catalog.specs.declared.refusal.Refusal.TheVariants as refusals
use Rattle.ss_command.specs.declared.TheConstants.{LONGEST_LINE}
use Rattle.ss_command.specs.Grammar.{is_comment, meaning, meaning_of_words}
use Rattle.ss_command.specs.Words.{words}

-- a line that is too long is refused
pub meaning-long : (line : List ℕ) → LONGEST_LINE < length line → meaning line ≡ Err refusals.Line
unfolding meaning
meaning-long line long = rw (lt-ltb LONGEST_LINE (length line) long) refl

-- a comment is no command
pub meaning-comment : (line : List ℕ) → length line ≤ LONGEST_LINE → is_comment line ≡ true → meaning line ≡ Ok None
unfolding meaning
meaning-comment line short comment = rw (le-ltb LONGEST_LINE (length line) short, comment) refl

-- any other line means what its words do
pub meaning-words : (line : List ℕ) (ws : List (List ℕ)) → length line ≤ LONGEST_LINE → is_comment line ≡ false → words line ≡ ws →
    meaning line ≡ meaning_of_words ws
unfolding meaning
meaning-words line ws short plain same = rw (le-ltb LONGEST_LINE (length line) short, plain, same) refl
