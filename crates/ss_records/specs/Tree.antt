-- A tree of bitmaps of 64 branches: which slots are in a set.
use Rattle.std.specs.Prelude.{◌≡◌, ℕ, ◌*◌, ◌<◌, ◌≤◌, Bool, true, false, List, length, slice_index, map}
use Rattle.std.specs.List.{range_with_len}
use Rattle.ss_records.specs.Bits.{is_set, is_full_word}

-- the set: for each slot, whether its bit is set
abbrev pub members : List ℕ → List Bool
members low = map (is_set low) (range_with_len 0 (64 * length low))

-- a bit of the upper words for each lower word: whether it is full
pub record MarksFullWords (upper lower : List ℕ) : Type 0 where
  pub words : length lower ≡ 64 * length upper
  pub full : (word : ℕ) → word < length lower → is_set upper word ≡ is_full_word (slice_index lower word)

-- three levels, of which the top one is of four words at most
pub record IsTree (low middle top : List ℕ) : Type 0 where
  pub few : length top ≤ 4
  pub over_low : MarksFullWords middle low
  pub over_middle : MarksFullWords top middle

-- the words before number n are full
abbrev pub FullBefore : ℕ → List ℕ → Type 0
FullBefore n words = (word : ℕ) → word < n → is_full_word (slice_index words word) ≡ true

-- the first bit that isn't set
pub record IsFirstClear (words : List ℕ) (place : ℕ) : Type 0 where
  pub below : place < 64 * length words
  pub clear : is_set words place ≡ false
  pub before : (j : ℕ) → j < place → is_set words j ≡ true
