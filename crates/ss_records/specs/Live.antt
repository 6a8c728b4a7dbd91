-- Which slots are live, that is, aren't zeros.
use Rattle.std.specs.Prelude.{◌≡◌, ℕ, ◌<◌, Bool, true, false, not, ◌==◌, List, [], ◌∷◌, count_by, length, slice_set, Option}
use Rattle.std.specs.List.{list_all, position, slice_index_or}
use Rattle.ss_journal.specs.declared.format.TheConstants.{MOST_SLOTS}
use Rattle.ss_journal.specs.declared.put.Put.{Put}

-- whether the bytes of a slot are zeros
abbrev pub are_zeros : List ℕ → Bool
are_zeros bytes = list_all (λ byte. byte == 0) bytes

-- whether the slot is live, by a list that tells it of each
abbrev pub is_live : List Bool → ℕ → Bool
is_live live slot = slice_index_or live slot false

-- how many slots are live
abbrev pub live_count : List Bool → ℕ
live_count live = count_by (λ is. is) live

-- the least slot that isn't live; none if all are
abbrev pub lowest_free : List Bool → Option ℕ
lowest_free live = position not live

-- which slots are live after these puts, in their order
abbrev pub live_after : List Put → List Bool → List Bool
live_after [] live = live
live_after (put ∷ puts) live = live_after puts (slice_set live put.slot (not (are_zeros put.bytes)))

-- the live slots are those that aren't zeros in the map
abbrev pub AreLiveIn : List Bool → (ℕ → List ℕ) → Type 0
AreLiveIn live map = (slot : ℕ) → slot < MOST_SLOTS → is_live live slot ≡ not (are_zeros (map slot))

-- the same of the slots below one
abbrev pub AreLiveBelow : ℕ → List Bool → (ℕ → List ℕ) → Type 0
AreLiveBelow slot live map = (k : ℕ) → k < slot → is_live live k ≡ not (are_zeros (map k))

-- the list tells of each slot that a file can have, and each live one lies below the extent
pub record LiveLieBelow (extent : ℕ) (live : List Bool) : Type 0 where
  pub slots : length live ≡ MOST_SLOTS
  pub below : (slot : ℕ) → is_live live slot ≡ true → slot < extent
