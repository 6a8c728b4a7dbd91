-- How many slots are used, and how long a file is, where the laws leave no room.
use Rattle.ss_store.proofs.Common.{◌≡◌, ◌+◌, ◌≤◌, ℕ, [], ◌∷◌, Ok, arith, false, refl, replicate, Told, slots_in, SlotMap, StandsFor, blank_map}
use Rattle.ss_store.proofs.Common.{stands, OpensStore, AllGrowLittle, GrowsLittle, Plain, StoreState}
use Rattle.ss_journal.specs.Format.{is_born, is_unborn}
use Rattle.ss_journal.specs.Redo.{redo}
use Rattle.ss_journal.specs.declared.phase.Phase.TheVariants.{Settled}

-- a store without a stream that uses so many slots
abbrev using : ℕ → StoreState
using extent = record {
  streams = [];
  records = record {
    journal = record { phase = Settled; extent = extent; in_use = 0; waiting = []; sealed = 0; staged = []; kind = Plain };
    live = [];
    cached = [];
  };
  stopped = false;
}

-- one more than the records that were held, or as many as were used, and no more
grows-one : GrowsLittle (using 0) (using 1)
grows-one = omega arith

grows-none : GrowsLittle (using 7) (using 7)
grows-none = omega arith

grows-two : GrowsLittle (using 0) (using 2) → ⊥
grows-two grows = omega arith

-- the bound of calls in a row is reached
all_grow-one : AllGrowLittle 0 (using 0) (using 1 ∷ []) (using 1)
all_grow-one = (omega arith, omega arith, refl)

all_grow-two : AllGrowLittle 0 (using 0) (using 2 ∷ []) (using 2) → ⊥
all_grow-two grow = let grows = grow.1 in omega arith

-- a file whose slot 1 is whole uses both, and one that lacks a byte of it slot 0 alone
uses-whole : slots_in (36864 + 256) ≡ 2
uses-whole = refl

redo-cut : redo (replicate (36864 + 255) 0) ≡ stands (blank_map (replicate (36864 + 255) 0))
unfolding redo is_born is_unborn
redo-cut = refl

-- what opening says of the slots that are used
opens-extent : (store : StoreState) (old new : Told) (found : SlotMap) → OpensStore (Ok store) old new → StandsFor old.content found →
    store.records.journal.extent ≤ found.extent
opens-extent store old new found opens is = opens.extent found is
