-- Puts of which each slot has one at most, the newest, in the order of their slots.
use Rattle.std.specs.Prelude.{◌≡◌, ℕ, nat_eq, nat_lt, if◌then◌else◌, IsTrue, List, [], ◌∷◌}
use Rattle.ss_journal.specs.declared.put.Put.{Put}
use Rattle.ss_journal.specs.Puts.{FillSlots, extent_after, slots_fit, with_puts}

-- rising puts with one more in its place, which takes the place of one for the same slot
abbrev pub with_newest : Put → List Put → List Put
with_newest put [] = put ∷ []
with_newest put (first ∷ rest) =
    if nat_lt put.slot first.slot then put ∷ first ∷ rest
    else (if nat_eq put.slot first.slot then put ∷ rest else first ∷ with_newest put rest)

-- rising puts after these, in their order
abbrev pub newest_after : List Put → List Put → List Put
newest_after [] held = held
newest_after (put ∷ puts) held = newest_after puts (with_newest put held)

-- Few puts that do what all of these do, in their order, where a map has so many slots.
pub record DoAs (all : List Put) (size : ℕ) (few : List Put) : Type 0 where
  pub bytes : (map : ℕ → List ℕ) (slot : ℕ) → with_puts few map slot ≡ with_puts all map slot
  pub fit : IsTrue (slots_fit few size)
  pub extent : extent_after few size ≡ extent_after all size
  pub whole : FillSlots few
