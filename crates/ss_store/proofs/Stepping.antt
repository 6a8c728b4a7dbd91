-- Calls that make a step of the state that records show, and so stage an event after the history.
use Rattle.ss_store.proofs.Common.{◌≡◌, ◌⊎◌, ◌+◌, ℕ, List, [], ◌∷◌, ◌++◌, sym, ◌∙◌, refl, None, Some, Option, Result, Ok, Err, inl, inr, on_ok_weaker}
use Rattle.ss_store.proofs.Common.{◌↔◌, of_content, KnowsNow, DiskView, Told, IfUndone, Event, Refusal, CanBeSaid, Happened, added, refuses, Stream}
use Rattle.ss_store.proofs.Common.{live, state, stepped, state-push, Ack, RecordsState, shown_by, RecoversToEither, StagesEvent, StandsForEither}
use Rattle.ss_store.proofs.Common.{StaysWithin, StepsState, TurnsShown, Applies, verdict_of_apply, StoreIsKept, StoreState, refuses_held, ApplyError}
use Rattle.ss_store.proofs.Common.{Recovers, Stands, IsShort, StandsShort, records_held_in}
use Rattle.std.specs.Prelude.{IsTrue}
use Rattle.ss_outside.proofs.CrashLemmas.{at_start}
use Rattle.ss_model.proofs.HistoryLemmas.{IsHistory_push}
use Rattle.ss_stream.proofs.ShownCalls.{TurnsShown-answers, TurnsShown-failed, TurnsShown-weaker, of_map-like}
use Rattle.ss_store.specs.declared.error.ApplyError.TheVariants as apply
use Rattle.ss_store.proofs.KeptStates.{AllAgree-recovered, Recovers-of_map, Recovers-same, Stands-of_map}
use Rattle.ss_store.proofs.Extents.{records_in-kept}
use Rattle.ss_store.proofs.Refusals.{refuses_held-is}
use Rattle.ss_store.proofs.Uses.{IsShort-staged, StandsShort-also, moments-staged}

-- what a call does to the records that are shown it does to the state that they are of
pub StepsState-turns : {T E : Type 0} (event : Event) (was is : RecordsState) (old new : Told) (result : Result T E) (streams : List Stream)
    (P M Q : List ℕ → Type 0) → Recovers streams (shown_by was old.content) → P (shown_by was old.content) →
    ((image : List ℕ) → M image → RecoversToEither streams event image) →
    ((image : List ℕ) → Q image → Recovers (stepped streams event) image) → TurnsShown was is P M Q old new result → StepsState event was is result old new
StepsState-turns event was is old new result streams P M Q before has crash after turns =
    λ all.
    TurnsShown-weaker was is P (Recovers all) M (RecoversToEither all event) Q (Recovers (stepped all event)) old new result (λ same. has)
    (λ same image left. rw (Recovers-same streams all (shown_by was old.content) before same) at (crash image left))
    (λ same image left. rw (Recovers-same streams all (shown_by was old.content) before same) at (after image left))
    turns

-- the step is told by another answer
pub StepsState-answers : {S F T E : Type 0} (event : Event) (was is : RecordsState) (old new : Told) (value : S) (result : Result T E) →
    StepsState {E = F} event was is (Ok value) old new → StepsState event was is result old new
StepsState-answers event was is old new value result steps =
    λ all. TurnsShown-answers was is (Recovers all) (RecoversToEither all event) (Recovers (stepped all event)) old new value result (steps all)

pub StepsState-failed : {S F T E : Type 0} (event : Event) (was is now : RecordsState) (old new : Told) (call : Result S F) (e : E) →
    StepsState event was is call old new → StepsState {T = T} event was now (Err e) old new
StepsState-failed {S} {F} {T} {E} event was is now old new call e steps =
    λ all.
    let failed : Result T E = Err e in
    TurnsShown-failed was is now (Recovers all) (RecoversToEither all event) (Recovers (stepped all event)) (Recovers (stepped all event)) old new call
    failed refl (steps all)

-- a step is an event more in the history, where the event isn't refused
Stands-push : (history : List Happened) (event : Event) (content image : List ℕ) → CanBeSaid event → Stands history content →
    refuses (state history) event ≡ None → Recovers (stepped (state history) event) image → Stands (history ++ added event ∷ []) image
Stands-push history event content image said stands none is = record {
  is_history = IsHistory_push history (added event) (record { before = stands.is_history; said = said; accepted = none });
  state = rw state-push is;
}

-- and so a call that makes a step of the state stages an event after each history of it, where the event isn't refused
StagesEvent-accepted : {T E : Type 0} (event : Event) (was is : RecordsState) (old new : Told) (result : Result T E) → CanBeSaid event →
    ((streams : List Stream) → Recovers streams (shown_by was old.content) → refuses streams event ≡ None) → StepsState event was is result old new →
    (records : ℕ) → ((history : List Happened) → Stands history (shown_by was old.content) → live (state history) ≡ records) →
    StaysWithin (records + 1) was is result old new → StagesEvent event was is result old new
StagesEvent-accepted event was is old new result said none steps records few within =
    λ history.
    let streams = state history in
    let turns = steps streams in
    let content = shown_by was old.content in
    record {
      content = λ stands.
          on_ok_weaker result (λ after. Stands-push history event content (shown_by is new.content) said stands (none streams stands.state) after)
          (turns.content stands.state);
      short = λ used shown.
          IsShort-staged was is old new result records within history (few history shown.0) used (added event ∷ []) shown.1;
      any_moment = λ nothing used sealed before shown.
          let stands = shown.0 in
          let its = Stands-of_map sealed old.content before.0 in
          moments-staged was is old new result records within history (few history stands) used (RecoversToEither streams event)
          (λ image. StandsShort used sealed image ⊎ (StandsForEither history event image × IsShort used history image)) nothing shown.1
          (λ image like. inl (StandsShort-also used sealed old.content image before (like its.0 its.1)))
          (λ image left short. elim left.1 [
            | inl same ↦
                inl (StandsShort-also used sealed old.content image before (left.2 its.0 (rw same its.1)))
            | inr either ↦ elim either [
              | inl still ↦
                  inr (
                    inl (record {
                      is_history = stands.is_history;
                      state = of_map-like (Recovers streams) (Recovers-of_map streams) image (left.0, still, left.2);
                    }),
                    short,
                  )
              | inr after ↦
                  inr (
                    inr (Stands-push history event content image said stands (none streams stands.state)
                        (of_map-like (Recovers (stepped streams event)) (Recovers-of_map (stepped streams event)) image (left.0, after, left.2))),
                    short,
                  )
            ]
          ])
          (turns.any_moment nothing stands.state);
      durable = turns.durable;
    }

-- where the disk wasn't called, nothing was done
StagesEvent-uncalled : {T E : Type 0} (event : Event) (was is : RecordsState) (disk : Told) (e : E) → KnowsNow disk →
    StagesEvent {T = T} event was is (Err e) disk disk
StagesEvent-uncalled event was is disk e knows =
    λ history. record {
      content = λ stands. tt;
      short = λ used shown. tt;
      any_moment = λ nothing used sealed before shown.
          let left = λ (image : List ℕ). StandsShort used sealed image ⊎ (StandsForEither history event image × IsShort used history image) in
          at_start disk left knows (of_content disk left nothing (inl before));
      durable = λ nothing. tt;
    }

-- why an event is refused is answered exactly
abbrev pub IsRefusedBy : {T : Type 0} → Option Refusal → Result T ApplyError → Type 0
IsRefusedBy why result = (r : Refusal) → (result ≡ Err (apply.Refused r)) ↔ (why ≡ Some r)

-- what isn't answered by a refusal isn't refused
pub not_refused : {T : Type 0} (why : Option Refusal) (result : Result T ApplyError) → IsRefusedBy why result →
    ((r : Refusal) → result ≡ Err (apply.Refused r) → ⊥) → why ≡ None
not_refused None result exactly never = refl
not_refused (Some r) result exactly never = absurd (never r ((exactly r).1 refl))

-- an event that a store staged comes after the history
module _ {X : Type 0} (event : Event) (old new : StoreState) (seen : X → DiskView) (was is : X) where
  abbrev shown : List ℕ
  shown = shown_by old.records (seen was).told.content

  -- the state that is shown refuses what the store refuses
  none-recovered : (result : Result Ack ApplyError) → StoreIsKept old (seen was).told.content → IsRefusedBy (refuses_held old.streams event) result →
      ((r : Refusal) → result ≡ Err (apply.Refused r) → ⊥) → (streams : List Stream) → Recovers streams shown → refuses streams event ≡ None
  none-recovered result kept exactly never streams has =
      let held = AllAgree-recovered old shown streams kept.shown has in
      sym (refuses_held-is old.streams streams event held.0 held.1) ∙ not_refused (refuses_held old.streams event) result exactly never

  unchanged : (e : ApplyError) → KnowsNow (seen was).told → is ≡ was →
      StagesEvent {T = Ack} event old.records new.records (Err e) (seen was).told (seen is).told
  unchanged e knows same = rw same (StagesEvent-uncalled event old.records new.records (seen was).told e knows)

  few : StoreIsKept old (seen was).told.content → (history : List Happened) → Stands history shown → live (state history) ≡ records_held_in old
  few kept history stands = sym (records_in-kept old (seen was).told.content history kept stands)

  pub StagesEvent-applied : (result : Result Ack ApplyError) → Applies event old new (seen was) (seen is) result → CanBeSaid event →
      StaysWithin (records_held_in old + 1) old.records new.records result (seen was).told (seen is).told →
      IfUndone (verdict_of_apply result) (is ≡ was) → IsTrue (seen was).tells → KnowsNow (seen was).told → StoreIsKept old (seen was).told.content →
      StagesEvent event old.records new.records result (seen was).told (seen is).told
  StagesEvent-applied (Ok ack) applied said within same told knows kept =
      StagesEvent-accepted event old.records new.records (seen was).told (seen is).told (Ok ack) said
      (none-recovered (Ok ack) kept applied.refused (λ r wrong. cc)) (applied.step.told told) (records_held_in old) (few kept) within
  StagesEvent-applied (Err apply.Disk) applied said within same told knows kept =
      StagesEvent-accepted event old.records new.records (seen was).told (seen is).told (Err apply.Disk) said
      (none-recovered (Err apply.Disk) kept applied.refused (λ r wrong. cc)) (applied.step.told told) (records_held_in old) (few kept) within
  StagesEvent-applied (Err (apply.Changed slot)) applied said within same told knows kept =
      StagesEvent-accepted event old.records new.records (seen was).told (seen is).told (Err (apply.Changed slot)) said
      (none-recovered (Err (apply.Changed slot)) kept applied.refused (λ r wrong. cc)) (applied.step.told told) (records_held_in old) (few kept) within
  StagesEvent-applied (Err (apply.Refused r)) applied said within same told knows kept = unchanged (apply.Refused r) knows same
  StagesEvent-applied (Err apply.Stopped) applied said within same told knows kept = unchanged apply.Stopped knows same
  StagesEvent-applied (Err apply.OutOfMemory) applied said within same told knows kept = unchanged apply.OutOfMemory knows same
