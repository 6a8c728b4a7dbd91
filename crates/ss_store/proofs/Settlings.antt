-- What was rebuilt is settled, and the records of dropped streams are cleared.
use Rattle.ss_stream.proofs.Calls.{Turns-failed, Turns-then, Turns-weaker}
use Rattle.ss_stream.proofs.ShownCalls.{IsOfMap}
use Rattle.ss_stream.proofs.Slots.{Turns-kept}
use Rattle.ss_store.proofs.Common.{◌≡◌, ℕ, List, [], ◌∷◌, ap, flat_map, map, refl, zip, Bool, Ok, Option, None, Result, on_ok_weaker, IsErr, Told, KeepsMap}
use Rattle.ss_store.proofs.Common.{Record, closed_state, Stream, AreWhole, AreWholeBeside, records_held, slots_held, StreamParts, Turns, ClearsSlots}
use Rattle.ss_store.proofs.Common.{HasRebuilt, HasRebuiltBeside, Recovers, LiveSlotsGo}
use Rattle.ss_store.proofs.Clearings.{HasDoomed-of_map, Recovers-doomed}

-- records in any slots
lie_in-some : (slots : List ℕ) → map (λ (e : ℕ × Option Record). e.0) (map (λ (slot : ℕ). (slot, None)) slots) ≡ slots
lie_in-some [] = refl
lie_in-some (slot ∷ slots) = ap (λ (l : List ℕ). slot ∷ l) (lie_in-some slots)

-- the streams of what is cleared are whole
pub AreWhole-cleared : (slots : List ℕ) (parts : List StreamParts) (live live_now : List Bool) → AreWholeBeside slots parts live →
    LiveSlotsGo slots [] live live_now → AreWhole parts live_now
AreWhole-cleared slots parts live live_now whole go = record {
  few = whole.few;
  numbers = whole.numbers;
  names = whole.names;
  tiles = whole.tiles;
  times = whole.times;
  landmarks = whole.landmarks;
  slots = go (flat_map slots_held parts) whole.slots;
}

module _ (slots : List ℕ) (parts : List StreamParts) (streams : List Stream) where
  abbrev beside : List ℕ → Type 0
  beside = HasRebuiltBeside slots parts streams

  abbrev recovers : List ℕ → Type 0
  recovers = Recovers (closed_state streams)

  pub Recovers-beside : (image : List ℕ) → HasRebuiltBeside slots parts streams image → Recovers (closed_state streams) image
  Recovers-beside image has = Recovers-doomed has.doomed (flat_map records_held (zip parts streams)) streams image has.records

  HasRebuiltBeside-of_map : IsOfMap beside
  HasRebuiltBeside-of_map image has =
      let its = HasDoomed-of_map has.doomed (flat_map records_held (zip parts streams)) streams image has.records in
      (its.0, its.1, λ other is. record { doomed = has.doomed; lie_in = has.lie_in; records = its.2 other is })

  -- settling failed: the records are those from before, and recover to the closed state
  pub Turns-unsettled : {S F T E : Type 0} (Q : List ℕ → Type 0) (old new : Told) (step : Result S F) (result : Result T E) → IsErr result →
      KeepsMap old new step → Turns (HasRebuiltBeside slots parts streams) (Recovers (closed_state streams)) Q old new result
  Turns-unsettled Q old new step result failed keeps =
      Turns-weaker beside beside beside recovers Q Q old new result (λ has. has) (λ has image left. Recovers-beside image left) (λ has image left. left)
      (Turns-failed beside beside beside Q old new step result failed (Turns-kept beside old new step HasRebuiltBeside-of_map keeps))

  -- the records of dropped streams are cleared
  Turns-cleared : {T E : Type 0} (old new : Told) (result : Result T E) → ClearsSlots slots result old new →
      Turns beside recovers (HasRebuilt parts streams) old new result
  Turns-cleared old new result clears =
      let held = flat_map records_held (zip parts streams) in
      record {
        content = λ has.
            on_ok_weaker result (λ left. record { found = left.found; map = left.map; occupied = left.occupied })
            ((clears has.doomed held streams has.lie_in).content has.records);
        any_moment = λ none has. (clears has.doomed held streams has.lie_in).any_moment none has.records;
        durable = (clears (map (λ (slot : ℕ). (slot, None)) slots) held streams (lie_in-some slots)).durable;
      }

  -- and this after the records were settled
  pub Turns-settled : {S F T E : Type 0} (old mid new : Told) (value : S) (result : Result T E) → KeepsMap {T = S} {E = F} old mid (Ok value) →
      ClearsSlots slots result mid new →
      Turns (HasRebuiltBeside slots parts streams) (Recovers (closed_state streams)) (HasRebuilt parts streams) old new result
  Turns-settled {F} old mid new value result keeps clears =
      Turns-then {F = F} beside beside beside recovers (HasRebuilt parts streams) recovers old mid new value result
      (Turns-kept {E = F} beside old mid (Ok value) HasRebuiltBeside-of_map keeps) (Turns-cleared mid new result clears)
      (λ image has. Recovers-beside image has) (λ image left. left)
