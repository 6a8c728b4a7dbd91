-- How many slots a store uses over calls in a row.
use Rattle.std.specs.Prelude.{◌≡◌, ◌+◌, ◌≤◌, max, ℕ, List, [], ◌∷◌}
use Rattle.ss_store.specs.Kept.{StoreState, live_held}

-- how many records a store holds
abbrev pub records_held_in : StoreState → ℕ
records_held_in store = live_held store.streams

-- a call uses no more slots than were used before it, or than the records that were held then and one
abbrev pub GrowsLittle : StoreState → StoreState → Type 0
GrowsLittle old new = new.records.journal.extent ≤ max old.records.journal.extent (records_held_in old + 1)

-- Stores in a row, from the first to the last: each came of the one before by such a call, and that one held at most so many records.
abbrev pub AllGrowLittle : ℕ → StoreState → List StoreState → StoreState → Type 0
AllGrowLittle most first [] last = last ≡ first
AllGrowLittle most first (next ∷ stores) last = (records_held_in first ≤ most) × GrowsLittle first next × AllGrowLittle most next stores last
