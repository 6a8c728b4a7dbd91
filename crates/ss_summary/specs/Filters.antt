-- Filters: 256 bits in which each value has one, so that a value whose bit isn't set is none of those that a filter is of.
use Rattle.std.specs.Prelude.{◌≡◌, ℕ, ◌-◌, ◌*◌, ◌/◌, ◌%◌, ◌^◌, ◌<◌, Bool, true, ◌&&◌, ◌==◌, if◌then◌else◌, nat_lt, ℤ, bit_or}
use Rattle.std.specs.Prelude.{List, [], ◌∷◌, length, All, slice_index}
use Rattle.std.specs.Int.{bit_at, cast_unsigned, w64}
use Rattle.std.specs.List.{list_all}
use Rattle.ss_summary.specs.Points.{Point, Old, New}
use Rattle.ss_summary.specs.declared.filter.Filter.{Filter}

-- the number of a value's bit, of the 256: the highest eight bits of a product by a number near 2^64 over the golden ratio
unfoldable pub bit_of : ℤ → ℕ
bit_of v = cast_unsigned w64 v * 11400714819323198485 % 2 ^ 64 / 2 ^ 56

-- a word of a filter, of the four; bit b is bit b mod 64 of the word b div 64
abbrev pub word : Filter → ℕ → ℕ
word filter k = slice_index filter.words k

-- the filter of four words
abbrev pub four : (ℕ → ℕ) → Filter
four w = record { words = w 0 ∷ w 1 ∷ w 2 ∷ w 3 ∷ [] }

-- a bit is set
abbrev pub has_bit : Filter → ℕ → Bool
has_bit filter b = bit_at (word filter (b / 64)) (b % 64) == 1

-- the bit of a value is set
unfoldable pub has : Filter → ℤ → Bool
has filter v = has_bit filter (bit_of v)

-- the filter with the bit of a value alone
unfoldable pub filter_of : ℤ → Filter
filter_of v = four (λ k. if k == bit_of v / 64 then 2 ^ (bit_of v % 64) else 0)

-- the filter with all bits
unfoldable pub full : Filter
full = four (λ k. 2 ^ 64 - 1)

-- the filter with the bits of both
unfoldable pub union : Filter → Filter → Filter
union a b = four (λ k. bit_or (word a k) (word b k))

-- what a point adds to a filter: the bit of its value, or all bits, where the point is old
abbrev pub filter_of_point : Point → Filter
filter_of_point (t, v, New) = filter_of v
filter_of_point (t, v, Old) = full

-- a point gives a bit to a filter
abbrev pub gives : ℕ → Point → Bool
gives bit (t, v, New) = bit == bit_of v
gives bit (t, v, Old) = true

-- the bits of some filter and of points
abbrev pub filter_with : Filter → List Point → Filter
filter_with filter [] = filter
filter_with filter (p ∷ ps) = union filter (filter_with (filter_of_point p) ps)

-- four words of 64 bits, as a filter has them
pub record IsFilter (filter : Filter) : Type 0 where
  pub words : length filter.words ≡ 4
  pub fit : All (λ word. word < 2 ^ 64) filter.words

-- the same, as a test that computes
abbrev pub is_filter : Filter → Bool
is_filter filter = length filter.words == 4 && list_all (λ word. nat_lt word (2 ^ 64)) filter.words
