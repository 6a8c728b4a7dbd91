-- What a call makes of what a disk stands for, also in a crash.
use Rattle.std.specs.Prelude.{◌⊎◌, ℕ, ◌+◌, List, [], ◌∷◌, ◌++◌, Option, Result, OnOk, ⊤}
use Rattle.ss_catalog.specs.declared.event.Event.{Event}
use Rattle.ss_outside.specs.Crash.{LeavesOnly}
use Rattle.ss_outside.specs.Disk.{Told, NothingPending}
use Rattle.ss_records.specs.Kept.{RecordsState, shown_by}
use Rattle.ss_model.specs.History.{Happened, added}
use Rattle.ss_model.specs.State.{Stream}
use Rattle.ss_model.specs.Steps.{stepped}
use Rattle.ss_stream.specs.Calls.{Turns, TurnsShown, StagesAtCost}
use Rattle.ss_store.specs.Recover.{Recovers, Stands}
use Rattle.ss_store.specs.Uses.{IsShort, StandsShort}

-- A call keeps what the disk stands for, whatever it is.
abbrev pub KeepsState : {T E : Type 0} → Told → Told → Result T E → Type 0
KeepsState old new result = (streams : List Stream) → Turns (Recovers streams) (Recovers streams) (Recovers streams) old new result

-- the same of histories
abbrev pub KeepsHistory : {T E : Type 0} → Told → Told → Result T E → Type 0
KeepsHistory old new result = (history : List Happened) → Turns (Stands history) (Stands history) (Stands history) old new result

-- the image stands for the history, or for the history with the event at its end
abbrev pub StandsForEither : List Happened → Event → List ℕ → Type 0
StandsForEither history event image = Stands history image ⊎ Stands (history ++ added event ∷ []) image

-- the image recovers to these streams, or to those after the event
abbrev pub RecoversToEither : List Stream → Event → List ℕ → Type 0
RecoversToEither streams event image = Recovers streams image ⊎ Recovers (stepped streams event) image

-- A call makes a step of the state that records show, which are others then, wholly or not at all, also of one that no history has.
abbrev pub StepsState : {T E : Type 0} → Event → RecordsState → RecordsState → Result T E → Told → Told → Type 0
StepsState event was is result old new =
    (streams : List Stream) →
    TurnsShown was is (Recovers streams) (RecoversToEither streams event) (Recovers (stepped streams event)) old new result

-- A call turns the history that records show, which are others then, into another. With nothing pending at the call, a crash at any
-- moment of it leaves only images that stand for a history that the content stood for, or that have M, and at Ok nothing is pending. Where the
-- content and what is shown use no more slots than they may, neither does any of these.
pub record TurnsHistory {T E : Type 0} (was is : RecordsState) (history : List Happened) (M : List ℕ → Type 0) (then : List Happened) (old new : Told)
    (result : Result T E) : Type 0 where
  pub content : Stands history (shown_by was old.content) → OnOk result (Stands then (shown_by is new.content))
  pub short : (used : Option ℕ) → StandsShort used history (shown_by was old.content) → OnOk result (IsShort used then (shown_by is new.content))
  pub any_moment : NothingPending old → (used : Option ℕ) (sealed : List Happened) → StandsShort used sealed old.content →
      StandsShort used history (shown_by was old.content) →
      LeavesOnly old new (λ image. StandsShort used sealed image ⊎ (M image × IsShort used history image))
  pub durable : NothingPending old → OnOk result (NothingPending new)

-- A call stages an event after the history that records show, wholly or not at all.
abbrev pub StagesEvent : {T E : Type 0} → Event → RecordsState → RecordsState → Result T E → Told → Told → Type 0
StagesEvent event was is result old new =
    (history : List Happened) → TurnsHistory was is history (StandsForEither history event) (history ++ added event ∷ []) old new result

-- A call brings the history that records show to the disk, wholly or not at all.
abbrev pub SealsHistory : {T E : Type 0} → RecordsState → RecordsState → Result T E → Told → Told → Type 0
SealsHistory was is result old new = (history : List Happened) → TurnsHistory was is history (Stands history) history old new result

-- What staging an event costs a store that held so many records: no more slots are used than for these and one, and room is made for
-- so many transactions and two at most.
abbrev pub CostsEvent : {T E : Type 0} → ℕ → RecordsState → RecordsState → Result T E → Told → Told → Type 0
CostsEvent records was is result = StagesAtCost (λ old new. ⊤) (records + 1) (records + 2) was is result
