-- What is said of a stream that is dropped, field by field and at one stream, where nothing else would tell if it said less.
use Rattle.ss_store.proofs.Common.{◌≡◌, ◌⊎◌, ℕ, true, false, List, [], ◌∷◌, ◌++◌, Err, IsPermutation, None, Ok, Option, Some, refl, list_any, LeavesOnly}
use Rattle.ss_store.proofs.Common.{NothingPending, Told, StandsFor, Record, closed_state, Stream, HasRecords, RecordsState, shown_by, is_of, records_beside}
use Rattle.ss_store.proofs.Common.{without_numbered, Agrees, occupied, records_held, carried, carries, StreamParts, params_of, StandsLike, IsHeldBeside}
use Rattle.ss_store.proofs.Common.{RecoversWithOrWithout, StagesDrop, dropped_record, slots_in_turn, Recovers}
use Rattle.ss_catalog.specs.declared.event.Event.TheVariants as events
use Rattle.ss_catalog.specs.declared.refusal.Refusal.TheVariants as refusal
use Rattle.ss_codec.specs.declared.record.Record.TheVariants as records
use Rattle.ss_store.specs.Kept.{refuses_held}

-- the slots of its landmarks come before those of their values, and its own comes last
last-slot : (part : StreamParts) → part.line.entries ≡ [] → part.landmarks.slots ≡ 5 ∷ [] → part.landmarks.value_slots ≡ 3 ∷ 7 ∷ [] →
    part.slot ≡ 2 → slots_in_turn part ≡ 5 ∷ 3 ∷ 7 ∷ 2 ∷ []
last-slot part entries slots values own = rw (entries, slots, values, own) refl

-- the record says that it was dropped
record-of : (part : StreamParts) → dropped_record part ≡ records.Stream part.id.0 part.name (params_of part.target) true
record-of part = refl

-- a name of which nothing is held is refused, and nothing else is
refused-drop : refuses_held [] (events.Drop (97 ∷ [])) ≡ Some refusal.Unknown
unfolding refuses_held
refused-drop = refl

accepted-drop : (part : StreamParts) → part.name ≡ 97 ∷ [] → refuses_held (part ∷ []) (events.Drop (97 ∷ [])) ≡ None
unfolding refuses_held
accepted-drop part name = rw name refl

other-drop : (part : StreamParts) → part.name ≡ 98 ∷ [] → refuses_held (part ∷ []) (events.Drop (97 ∷ [])) ≡ Some refusal.Unknown
unfolding refuses_held
other-drop part name = rw name refl

-- a stream that is held beside others
module _ (others : List (ℕ × Option Record)) (part : StreamParts) (s : Stream) (streams : List Stream) where
  module _ (image : List ℕ) (has : IsHeldBeside others part s streams image) where
    beside-agrees : Agrees part s
    beside-agrees = has.agrees

    beside-none : list_any (is_of s.number) (records_beside others) ≡ false
    beside-none = has.none

    beside-map : StandsFor image has.found
    beside-map = has.map

    beside-occupied : IsPermutation (records_held (part, s) ++ others) (occupied has.found)
    beside-occupied = has.occupied

    beside-carried : carried has.found ≡ carries streams
    beside-carried = has.carried

  either-state : (image : List ℕ) → RecoversWithOrWithout s.number streams image →
      Recovers (closed_state streams) image ⊎ Recovers (closed_state (without_numbered s.number streams)) image
  either-state image either = either

  -- what staging the drop leaves, at Ok and in a crash
  module _ (was is : RecordsState) (old new : Told) (held : IsHeldBeside others part s streams (shown_by was old.content)) where
    drop-shown : StagesDrop {T = ℕ} {E = ℕ} part was is (Ok 1) old new → HasRecords others (shown_by is new.content)
    drop-shown stages = (stages others s streams).content held

    drop-crash : StagesDrop {T = ℕ} {E = ℕ} part was is (Err 1) old new → NothingPending old →
        LeavesOnly old new (StandsLike (λ image. (image ≡ old.content) ⊎ RecoversWithOrWithout s.number streams image))
    drop-crash stages none = (stages others s streams).any_moment none held

    drop-durable : StagesDrop {T = ℕ} {E = ℕ} part was is (Ok 1) old new → NothingPending old → NothingPending new
    drop-durable stages none = (stages others s streams).durable none
