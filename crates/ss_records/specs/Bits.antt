-- Bits in words of 64.
use Rattle.std.specs.Prelude.{ℕ, ◌-◌, ◌/◌, ◌%◌, ◌^◌, Bool, ◌==◌, List, slice_index}
use Rattle.std.specs.Int.{bit_at}

-- whether bit k of the words is set
abbrev pub is_set : List ℕ → ℕ → Bool
is_set words k = bit_at (slice_index words (k / 64)) (k % 64) == 1

-- whether every bit of the word is set
abbrev pub is_full_word : ℕ → Bool
is_full_word word = word == 2 ^ 64 - 1
