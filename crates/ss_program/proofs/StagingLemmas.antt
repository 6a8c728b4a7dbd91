-- What staging an event and asking a query make of the history that records show.
use Rattle.ss_program.proofs.Common.{inl, inr, ◌⊎◌, ⊎_elim, ◌≡◌, ◌∙◌, ◌++◌, ◌∷◌, [], List, ℕ, Some, None, Result, Ok, Err, sym, ap, false, on_ok_weaker, ◌↔◌}
use Rattle.ss_program.proofs.Common.{IsTrue, OnOk, Event, Refusal, Do, shown, added, refuses, state, Ack, nothing_pending-same, of_content, read_leaves, weaker}
use Rattle.ss_program.proofs.Common.{KnowsNow, OnlyReads, DiskView, NothingPending, Told, RecordsState, shown_by, Reply, refuses-kept, StandsForEither}
use Rattle.ss_program.proofs.Common.{TurnsHistory, StoreState, refuses_held, IsShort, StandsShort, Stands, ApplyError, IsOneReply, ReadsAnswer, IsServing}
use Rattle.ss_program.proofs.Common.{Brought, History, command_brings, history_after, StandsAround, StagesBrought, Status}
use Rattle.ss_journal.proofs.TearLemmas.{on_ok}
use Rattle.ss_program.proofs.AnswerLemmas.{brings-accepted, history-still, not_refused}
use Rattle.ss_store.specs.declared.error.ApplyError.TheVariants as errors

-- an event that the store doesn't refuse isn't refused by any history that it shows
pub accepted-shown : (event : Event) (store : StoreState) (disk : DiskView) (result : Result Ack ApplyError) → IsServing disk store →
    ((r : Refusal) → (result ≡ Err (errors.Refused r)) ↔ (refuses_held store.streams event ≡ Some r)) →
    ((r : Refusal) → result ≡ Err (errors.Refused r) → ⊥) → IsTrue disk.tells → (history : History) →
    Stands history (shown_by store.records disk.told.content) → refuses (state history) event ≡ None
accepted-shown event store disk result serves refused other told history stands =
    refuses-kept store (shown_by store.records disk.told.content) history event (serves.kept told).shown stands
    ∙ not_refused result (refuses_held store.streams event) refused other

-- what holds of what is shown by the history stays for a line that brings no event
shown-still : (was is : RecordsState) (history : History) (brought : Brought) (old new : List ℕ) (P : History → List ℕ → Type 0) →
    brought.event ≡ None → shown_by is new ≡ shown_by was old → P history (shown_by was old) → P (history_after history brought) (shown_by is new)
shown-still was is history brought old new P none same has = rw (history-still, same) has

module _ (was is : RecordsState) (history : History) (old new : Told) where
  -- an event that was staged, or not, where it isn't refused
  pub Turns-staged : {T S E F : Type 0} (event : Event) (step : Result T E) (result : Result S F) → ((X : Type 0) → OnOk step X → OnOk result X) →
      (Stands history (shown_by was old.content) → refuses (state history) event ≡ None) →
      TurnsHistory was is history (StandsForEither history event) (history ++ added event ∷ []) old new step →
      TurnsHistory was is history (StandsAround history (command_brings history (Do event))) (history_after history (command_brings history (Do event)))
      old new result
  Turns-staged event step result keeps accepted turns =
      let brought = command_brings history (Do event) in
      let after = λ (has : Stands history (shown_by was old.content)).
      ap (λ (b : Brought). history_after history b) (sym (brings-accepted false history event (accepted has))) in
      record {
        content = λ has. keeps (Stands (history_after history brought) (shown_by is new.content))
            (on_ok_weaker step (λ stands. rw after at stands) (turns.content has));
        short = λ used has. keeps (IsShort used (history_after history brought) (shown_by is new.content))
            (on_ok_weaker step (λ short. rw (after has.0) at short) (turns.short used has));
        any_moment = λ durable used sealed there has.
            weaker old new (λ image. StandsShort used sealed image ⊎ (StandsForEither history event image × IsShort used history image))
            (λ image. StandsShort used sealed image ⊎ (StandsAround history brought image × IsShort used history image))
            (λ image either. ⊎_elim (λ before. inl before)
            (λ one. inr (⊎_elim (λ stands. inl stands) (λ stands. inr (rw (after has.0) at stands)) one.0, one.1)) either)
            (turns.any_moment durable used sealed there has);
        durable = λ durable. keeps (NothingPending new) (turns.durable durable);
      }

  -- a call that only reads, for a line that brings no event after what is shown
  pub Turns-looked : {T E : Type 0} (brought : Brought) (result : Result T E) → KnowsNow old → OnlyReads old new →
      OnOk result (shown_by is new.content ≡ shown_by was old.content) → (Stands history (shown_by was old.content) → brought.event ≡ None) →
      TurnsHistory was is history (StandsAround history brought) (history_after history brought) old new result
  Turns-looked brought result knows reads same none = record {
    content = λ has.
        on_ok_weaker result (λ (is_same : shown_by is new.content ≡ shown_by was old.content).
        shown-still was is history brought old.content new.content (λ h. Stands h) (none has) is_same has) same;
    short = λ used has.
        on_ok_weaker result (λ (is_same : shown_by is new.content ≡ shown_by was old.content).
        shown-still was is history brought old.content new.content (λ h. IsShort used h) (none has.0) is_same has.1) same;
    any_moment = λ durable used sealed there has.
        weaker old new old.may_leave (λ image. StandsShort used sealed image ⊎ (StandsAround history brought image × IsShort used history image))
        (λ image left. inl (of_content old (StandsShort used sealed) durable there image left)) (read_leaves old new knows reads);
    durable = λ durable. on_ok result (nothing_pending-same old new reads.same durable);
  }

-- a query is a line that brings no event
pub Stages-asked : {was is : RecordsState} (brought : History → Brought) (result : Result Reply Status) (old new : Told) →
    ((history : History) → (brought history).event ≡ None) → KnowsNow old → OnOk result (is.journal ≡ was.journal) →
    ReadsAnswer (IsOneReply was brought) result old new → StagesBrought brought was is result old new
Stages-asked {was = was} {is = is} brought (Ok reply) old new none knows same asks = record {
  turns = λ history. Turns-looked was is history old new (brought history) (Ok reply) knows asks.reads
      (ap (λ (bytes : List ℕ). shown_by is bytes) asks.reads.same.content ∙ ap (λ j. shown j old.content) same) (λ stands. none history);
  reply = asks.answer;
}
Stages-asked {was = was} {is = is} brought (Err status) old new none knows same asks = record {
  turns = λ history. Turns-looked was is history old new (brought history) (Err status) knows asks.reads tt (λ stands. none history);
  reply = λ history stands. tt;
}
