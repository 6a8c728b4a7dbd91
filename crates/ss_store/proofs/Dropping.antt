-- What a call does that stages the drop of a stream, transaction by transaction.
use Rattle.ss_store.proofs.Common.{◌≡◌, ◌∙◌, ℕ, Bool, true, List, [], ◌∷◌, ◌++◌, map, refl, ap, subst, inl, inr, IsPermutation, None, Ok, Option, Result}
use Rattle.ss_store.proofs.Common.{Some, IsErr, IsPermutation-append_comm, IsPermutation-append_left, IsPermutation-sym, IsPermutation-trans, on_ok_weaker}
use Rattle.ss_store.proofs.Common.{weaker, KnowsNow, Told, SlotMap, StandsFor, changed, zeros, Put, RecordsState, shown_by, is_valid, Record, Entry}
use Rattle.ss_store.proofs.Common.{closed_state, Stream, HasRecords, without_numbered, Agrees, IsRecord, entries_of, mark_slots, occupied, stream_record}
use Rattle.ss_store.proofs.Common.{carried, carries, StreamParts, HasWholeSlots-StandsFor, TurnsShown, HasDoomed, StagesChange, StagesClearing, IsHeldBeside}
use Rattle.ss_store.proofs.Common.{RecoversWithOrWithout, dropped_record, slots_in_turn, Recovers, recovered_of, AreSomeLive, live_slots, record_put, StaysOr}
use Rattle.ss_codec.specs.declared.record.Record.TheVariants as records
use Rattle.ss_store.proofs.Among.{recover-StandsFor}
use Rattle.ss_recover.proofs.DroppedMaps.{carried-dropped}
use Rattle.ss_stream.proofs.Changes.{moves-replaced}
use Rattle.ss_stream.proofs.ShownCalls.{StaysOr-weaker, TurnsShown-failed, TurnsShown-then, TurnsShown-weaker}
use Rattle.ss_store.proofs.DroppedRecords.{GoInTurn-dropped, doomed_of, beside_own, slots-dropped}

-- an image of a map that carries streams recovers to what they close to
Recovers-carried : (image : List ℕ) (found : SlotMap) (streams : List Stream) → StandsFor image found → carried found ≡ carries streams →
    Recovers (closed_state streams) image
Recovers-carried image found streams is carries_them = recover-StandsFor image found is ∙ ap recovered_of carries_them

-- the last one comes first
pub last-first : {X : Type 0} (xs : List X) (x : X) (ys : List X) → IsPermutation ((xs ++ x ∷ []) ++ ys) (x ∷ (xs ++ ys))
last-first xs x ys = IsPermutation-append_left ys (xs ++ x ∷ []) (x ∷ xs) (IsPermutation-append_comm xs (x ∷ []))

-- the slot of the stream's own record is live
pub own-live : (part : StreamParts) (live : List Bool) → AreSomeLive (slots_in_turn part) live → AreSomeLive (part.slot ∷ []) live
own-live part live some =
    let front = map (λ (e : Entry). e.slot) (entries_of part) ++ mark_slots part in
    let all = (front ++ part.slot ∷ []) ++ some.0 in (
      front ++ some.0,
      IsPermutation-trans (part.slot ∷ (front ++ some.0)) all (live_slots live)
          (IsPermutation-sym all (part.slot ∷ (front ++ some.0)) (last-first front part.slot some.0)) some.1,
    )

-- what a map becomes by some puts, where an image that stands for it stands for a map
record IsChanged (puts : List Put) (M Q : List ℕ → Type 0) (image : List ℕ) : Type 0 where
  pub found : SlotMap
  pub map : StandsFor image found
  pub stays : (other : List ℕ) → StandsFor other found → M other
  pub reaches : (other : List ℕ) → StandsFor other (changed found puts) → Q other

-- slots, each with whatever it may have
firsts-any : (slots : List ℕ) → map (λ (e : ℕ × Option Record). e.0) (map (λ slot. (slot, None)) slots) ≡ slots
firsts-any [] = refl
firsts-any (slot ∷ slots) = ap (λ l. slot ∷ l) (firsts-any slots)

no_map : SlotMap
no_map = record { bytes = λ slot. zeros; extent = 0 }

TurnsShown-changed : {T E : Type 0} (puts : List Put) (was is : RecordsState) (P M Q : List ℕ → Type 0) (old new : Told) (result : Result T E) →
    ((image : List ℕ) → P image → IsChanged puts M Q image) → StagesChange puts was is result old new → TurnsShown was is P M Q old new result
TurnsShown-changed puts was is P M Q old new result of stages = record {
  content = λ has.
      let its = of (shown_by was old.content) has in on_ok_weaker result (its.reaches (shown_by is new.content)) ((stages its.found).content its.map);
  any_moment = λ none has.
      let its = of (shown_by was old.content) has in
      weaker old new (StaysOr old (λ image. StandsFor image its.found)) (StaysOr old M) (StaysOr-weaker old (λ image. StandsFor image its.found) M its.stays)
      ((stages its.found).any_moment none its.map);
  durable = (stages no_map).durable;
}

module _ (part : StreamParts) (others : List (ℕ × Option Record)) (s : Stream) (streams : List Stream)
    (valid : is_valid (dropped_record part) ≡ true) where
  -- the streams that stay
  abbrev left : List Stream
  left = without_numbered s.number streams

  -- the stream's record says that it was dropped
  HasDoomed-first : (image : List ℕ) → IsHeldBeside others part s streams image →
      IsChanged (record_put part.slot (dropped_record part) ∷ []) (RecoversWithOrWithout s.number streams) (HasDoomed (doomed_of part s) others left) image
  HasDoomed-first image has =
      let r : Record = records.Stream s.number s.name s.params true in
      let same : dropped_record part ≡ r =
      λ i. records.Stream (has.agrees.number i) (has.agrees.name i) (has.agrees.params i) true in
      let put = record_put part.slot (dropped_record part) in
      let some : dropped_record part ≡ records.Free → ⊥ = λ wrong. cc in
      let rest = beside_own (part, s) ++ others in
      let whole = HasWholeSlots-StandsFor image has.found has.map in
      let moved : IsPermutation ((part.slot, Some (stream_record s)) ∷ rest) (occupied has.found) = has.occupied in
      let is_put = subst (IsRecord put) same (record { spelled = record { valid = valid; spelled = refl }; some = some }) in
      let carried_then = carried-dropped has.found put streams (record { number = s.number; name = s.name; params = s.params }) rest whole is_put
      has.carried moved in
      let now : IsPermutation ((part.slot, Some r) ∷ rest) (occupied (changed has.found (put ∷ []))) =
      rw (← same) (moves-replaced part.slot (dropped_record part) valid some (Some (stream_record s)) rest has.found moved) in
      record {
        found = has.found;
        map = has.map;
        stays = λ other stands. inl (Recovers-carried other has.found streams stands has.carried);
        reaches = λ other stands. record {
          found = changed has.found (put ∷ []);
          map = stands;
          occupied = IsPermutation-trans (doomed_of part s ++ others) ((part.slot, Some r) ∷ rest) (occupied (changed has.found (put ∷ [])))
              (last-first (beside_own (part, s)) (part.slot, Some r) others) now;
          carried = carried_then;
          in_turn = GoInTurn-dropped part s others has.none;
        };
      }

  module _ {S F T E : Type 0} (was mid is : RecordsState) (old between new : Told) where
    of_held : (value : S) (result : Result T E) → KnowsNow between →
        StagesChange {T = S} {E = F} (record_put part.slot (dropped_record part) ∷ []) was mid (Ok value) old between →
        StagesClearing (slots_in_turn part) mid is result between new → Agrees part s →
        TurnsShown was is (IsHeldBeside others part s streams) (RecoversWithOrWithout s.number streams) (HasRecords others) old new result
    of_held value result knows drops clears agrees =
        let P = IsHeldBeside others part s streams in
        let L = RecoversWithOrWithout s.number streams in
        let Q = HasDoomed (doomed_of part s) others left in
        let N = Recovers (closed_state left) in
        let R = HasDoomed [] others left in
        let first : TurnsShown {T = S} {E = F} was mid P L Q old between (Ok value) =
        TurnsShown-changed (record_put part.slot (dropped_record part) ∷ []) was mid P L Q old between (Ok value) HasDoomed-first drops in
        let second : TurnsShown mid is Q N R between new result = clears (doomed_of part s) others left (slots-dropped part s agrees) in
        TurnsShown-weaker was is P P L L R (HasRecords others) old new result (λ has. has) (λ has image left. left)
        (λ has image gone. record { found = gone.found; map = gone.map; occupied = gone.occupied })
        (TurnsShown-then was mid is P L Q N R L old between new value result knows first second (λ image left. left) (λ image left. inr left))

    -- both transactions, whatever the second answers
    pub TurnsShown-dropped : (value : S) (result : Result T E) → KnowsNow between →
        StagesChange {T = S} {E = F} (record_put part.slot (dropped_record part) ∷ []) was mid (Ok value) old between →
        StagesClearing (slots_in_turn part) mid is result between new →
        TurnsShown was is (IsHeldBeside others part s streams) (RecoversWithOrWithout s.number streams) (HasRecords others) old new result
    TurnsShown-dropped value result knows drops clears =
        let slots = slots_in_turn part in
        let any : List (ℕ × Option Record) = map (λ slot. (slot, None)) slots in
        record {
          content = λ has. (of_held value result knows drops clears has.agrees).content has;
          any_moment = λ none has. (of_held value result knows drops clears has.agrees).any_moment none has;
          durable = λ none. (clears any [] [] (firsts-any slots)).durable ((drops no_map).durable none);
        }

    -- the first failed
    pub TurnsShown-undropped : (step : Result S F) (result : Result T E) → IsErr result →
        StagesChange (record_put part.slot (dropped_record part) ∷ []) was mid step old new →
        TurnsShown was is (IsHeldBeside others part s streams) (RecoversWithOrWithout s.number streams) (HasRecords others) old new result
    TurnsShown-undropped step result failed drops =
        let P = IsHeldBeside others part s streams in
        let L = RecoversWithOrWithout s.number streams in
        let Q = HasDoomed (doomed_of part s) others left in
        TurnsShown-failed was mid is P L Q (HasRecords others) old new step result failed
        (TurnsShown-changed (record_put part.slot (dropped_record part) ∷ []) was mid P L Q old new step HasDoomed-first drops)
