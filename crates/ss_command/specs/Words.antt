-- The words of a line.
use Rattle.std.specs.Prelude.{ℕ, Bool, ◌==◌, ◌||◌, nat_lt, nat_eq, List, length, filter, take, drop}
use Rattle.std.specs.List.{position_or_len, prefix_len, slice_split}
use lib.Pointwise.{pointwise}

-- a byte that stands between words: a space or a tab
abbrev pub is_blank : ℕ → Bool
is_blank b = b == 32 || b == 9

-- of what stands between two blanks: some bytes, so that it is a word
abbrev pub is_some_word : List ℕ → Bool
is_some_word word = nat_lt 0 (length word)

-- the words of a line: the longest runs of bytes that are no blanks
unfoldable pub words : List ℕ → List (List ℕ)
words line = filter is_some_word (slice_split is_blank line)

-- a word is this one, byte for byte
abbrev pub is_word : List ℕ → List ℕ → Bool
is_word = pointwise nat_eq

-- a line from its first word on
abbrev pub from_word : List ℕ → List ℕ
from_word line = drop (prefix_len is_blank line) line

-- the first word of a line; nothing where it has none
abbrev pub first_word : List ℕ → List ℕ
first_word line = take (position_or_len is_blank (from_word line)) (from_word line)

-- what stands after the first word of a line and the blanks behind it
abbrev pub rest_of : List ℕ → List ℕ
rest_of line = from_word (drop (position_or_len is_blank (from_word line)) (from_word line))
