-- How many slots an image uses and a history needs, where the definitions leave no room.
use Rattle.ss_store.proofs.Common.{◌≡◌, ◌⊎◌, ◌+◌, ◌*◌, ℕ, List, [], ◌∷◌, None, Ok, Some, arith, pos, refl, max, replicate, ⊤, LeavesOnly}
use Rattle.ss_store.proofs.Common.{NothingPending, Told, Failed, exp, blank_map, stands, SameMap-refl, StandsFor-from, StandsFor-same, Happened, added}
use Rattle.ss_store.proofs.Common.{RecordsState, shown_by, OpensStore, SealsStore, KeepsWithin, StandsLike, StaysWithin, StoreState, Stands, IsShort}
use Rattle.ss_store.proofs.Common.{StandsShort, UsesAtMost, most_needed, OpenError}
use Rattle.std.specs.Prelude.{Result, length}
use Rattle.ss_catalog.specs.declared.event.Event.TheVariants as events
use Rattle.ss_journal.specs.Format.{is_born, is_unborn}
use Rattle.ss_journal.specs.Redo.{redo}
use Rattle.ss_model.specs.State.{state}

-- a file of two slots, of zeros
abbrev two_slots : List ℕ
two_slots = replicate (36864 + 256) 0

redo-two : redo two_slots ≡ stands (blank_map two_slots)
unfolding redo is_born is_unborn
redo-two = refl

-- uses two, and not one
uses-two : UsesAtMost 2 two_slots
uses-two = record {
  found = blank_map two_slots;
  map = StandsFor-from two_slots (blank_map two_slots) (blank_map two_slots) redo-two (SameMap-refl (blank_map two_slots));
  few = omega arith;
}

uses-one : UsesAtMost 1 two_slots → ⊥
unfolding uses-two
uses-one uses = let same = StandsFor-same two_slots (blank_map two_slots) uses.found uses-two.map uses.map in omega (arith, same.extent, uses.few)

-- A stream, its value and its end need one record, two and none, which are two at a time.
abbrev created : Happened
created = added (events.Create (97 ∷ []) (exp 2 1 1))

abbrev valued : Happened
valued = added (events.Value (97 ∷ []) 10 (pos 5))

abbrev dropped : Happened
dropped = added (events.Drop (97 ∷ []))

needed-none : most_needed [] ≡ 0
unfolding state
needed-none = refl

needed-one : most_needed (created ∷ []) ≡ 1
unfolding state
needed-one = refl

needed-two : most_needed (created ∷ valued ∷ []) ≡ 2
unfolding state
needed-two = refl

needed-dropped : most_needed (created ∷ valued ∷ dropped ∷ []) ≡ 2
unfolding state
needed-dropped = refl

-- so three slots are allowed after it, or as many as were used before
short-three : (image : List ℕ) → IsShort (Some 0) (created ∷ valued ∷ dropped ∷ []) image ≡ UsesAtMost 3 image
unfolding state
short-three image = refl

short-seven : (image : List ℕ) → IsShort (Some 7) (created ∷ valued ∷ dropped ∷ []) image ≡ UsesAtMost 7 image
unfolding state
short-seven image = refl

-- so the image stands for the history and uses no more than these, and where none are asked for any number of slots may be used
stands-short : (image : List ℕ) → StandsShort (Some 0) [] image ≡ (Stands [] image × UsesAtMost 1 image)
unfolding state
stands-short image = refl

short-unasked : (history : List Happened) (image : List ℕ) → IsShort None history image ≡ ⊤
short-unasked history image = refl

-- an empty file uses none
redo-empty : redo [] ≡ stands (blank_map [])
unfolding redo is_born is_unborn
redo-empty = refl

uses-empty : UsesAtMost 0 []
uses-empty = record {
  found = blank_map [];
  map = StandsFor-from [] (blank_map []) (blank_map []) redo-empty (SameMap-refl (blank_map []));
  few = omega arith;
}

-- a file of two slots and of 127 bytes of a third, which is as long as one that uses two can be
abbrev cut_off : List ℕ
cut_off = replicate (36864 + 256 + 127) 0

redo-cut_off : redo cut_off ≡ stands (blank_map cut_off)
unfolding redo is_born is_unborn
redo-cut_off = refl

uses-cut_off : UsesAtMost 2 cut_off
uses-cut_off = record {
  found = blank_map cut_off;
  map = StandsFor-from cut_off (blank_map cut_off) (blank_map cut_off) redo-cut_off (SameMap-refl (blank_map cut_off));
  few = omega arith;
}

longest : length cut_off + 1 ≡ 36864 + 128 * (max 2 (most_needed [] + 1) + 1)
unfolding state
longest = refl

-- with one byte more it uses three
abbrev three_slots : List ℕ
three_slots = replicate (36864 + 384) 0

redo-three : redo three_slots ≡ stands (blank_map three_slots)
unfolding redo is_born is_unborn
redo-three = refl

uses-three : UsesAtMost 2 three_slots → ⊥
uses-three uses =
    let its = StandsFor-from three_slots (blank_map three_slots) (blank_map three_slots) redo-three (SameMap-refl (blank_map three_slots)) in
    let same = StandsFor-same three_slots (blank_map three_slots) uses.found its uses.map in
    omega (arith, same.extent, uses.few)

-- a call that may use two slots makes no file of two one of three, and a crash within it leaves none of three
module _ {T E : Type 0} (value : T) (old new : Told) where
  keeps-three : KeepsWithin {E = E} 2 (Ok value) old new → old.content ≡ two_slots → new.content ≡ three_slots → ⊥
  keeps-three keeps was is = uses-three (rw is at ((keeps 2 (omega arith)).content (rw was uses-two)))

  keeps-crash : KeepsWithin {E = E} 2 (Ok value) old new → old.content ≡ two_slots → NothingPending old → LeavesOnly old new (UsesAtMost 2)
  keeps-crash keeps was none = (keeps 2 (omega arith)).any_moment none (rw was uses-two)

  -- nor does one that stages, of what is shown
  module _ (was is : RecordsState) (stays : StaysWithin {E = E} 2 was is (Ok value) old new) (shown : shown_by was old.content ≡ two_slots) where
    shows-two : UsesAtMost 2 (shown_by was old.content)
    shows-two = rw shown uses-two

    stays-three : shown_by is new.content ≡ three_slots → ⊥
    stays-three then = uses-three (rw then at ((stays.turns 2 (omega arith)).content shows-two))

    stays-crash : NothingPending old → LeavesOnly old new (StandsLike (λ image. (image ≡ old.content) ⊎ UsesAtMost 2 image))
    stays-crash none = (stays.turns 2 (omega arith)).any_moment none shows-two

-- neither an opening nor a seal takes a slot, and no image that a crash leaves of them uses one more
opens-within : (result : Result StoreState OpenError) (old new : Told) → OpensStore result old new → KeepsWithin 0 result old new
opens-within result old new opens = opens.within

seals-within : (was is : StoreState) (result : Result Unit Failed) (old new : Told) → SealsStore was is result old new →
    StaysWithin 0 was.records is.records result old new
seals-within was is result old new seals = seals.within
