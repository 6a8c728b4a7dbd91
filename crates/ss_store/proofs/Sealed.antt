-- Events that were staged are sealed: what the store shows comes to the disk.
use Rattle.ss_store.proofs.Common.{◌⊎◌, ⊎_elim, Bool, List, ℕ, Err, Ok, Result, inl, inr, on_ok_weaker, OnOk}
use Rattle.ss_store.proofs.Common.{weaker, Told, Failed}
use Rattle.ss_store.proofs.Common.{KeepsShown, StandsFor, SealsRecords}
use Rattle.ss_store.proofs.Common.{RecordsState, shown_by, SealsStore}
use Rattle.ss_store.proofs.Common.{StoreIsIn, StoreIsKept, StoreState, Recovers, Stands, IsShort, StandsShort}
use Rattle.ss_parts.specs.declared.read_error.ReadError.TheVariants as fault
use Rattle.ss_stream.proofs.ShownCalls.{TurnsShown-kept}
use Rattle.ss_stream.proofs.Within.{StaysWithin-kept}
use Rattle.ss_store.specs.Calls.{SealsHistory}
use Rattle.ss_store.specs.declared.error.ApplyError.TheVariants as apply
use Rattle.ss_store.proofs.KeptStates.{Recovers-of_map, Stands-of_map}
use Rattle.ss_store.proofs.Uses.{StandsShort-also}

-- what is shown stays the history, and comes to the disk as a whole
SealsHistory-keeps : {T E : Type 0} (was is : RecordsState) (old new : Told) (result : Result T E) → KeepsShown was.journal is.journal old new result →
    SealsHistory was is result old new
SealsHistory-keeps was is old new result keeps =
    λ history. record {
      content = λ stands.
          let its = Stands-of_map history (shown_by was old.content) stands in
          on_ok_weaker result (its.2 (shown_by is new.content)) (keeps.map its.0 its.1);
      short = λ used shown.
          let its = Stands-of_map history (shown_by was old.content) shown.0 in
          on_ok_weaker result (λ (stands : StandsFor (shown_by is new.content) its.0). (StandsShort-also used history (shown_by was old.content)
          (shown_by is new.content) shown stands).1)
          (keeps.map its.0 its.1);
      any_moment = λ none used sealed before shown.
          let first = Stands-of_map sealed old.content before.0 in
          let its = Stands-of_map history (shown_by was old.content) shown.0 in
          weaker old new (λ image. StandsFor image first.0 ⊎ StandsFor image its.0)
          (λ image. StandsShort used sealed image ⊎ (Stands history image × IsShort used history image))
          (λ image. ⊎_elim (λ stays. inl (StandsShort-also used sealed old.content image before stays))
          (λ comes. inr (StandsShort-also used history (shown_by was old.content) image shown comes)))
          (keeps.any_moment none first.0 its.0 first.1 its.1);
      durable = keeps.durable;
    }

-- an image that stands for the map of one that has a store's records has them too
StoreIsIn-also : (was : StoreState) (is : RecordsState) (stopped : Bool) (before after : List ℕ) (from : StoreIsIn was before) →
    StandsFor after from.held.found → StoreIsIn (record { streams = was.streams; records = is; stopped = stopped }) after
StoreIsIn-also was is stopped before after from also = record {
  streams = from.streams;
  state = from.state;
  agree = from.agree;
  held = record { found = from.held.found; map = also; occupied = from.held.occupied };
  closed = from.closed;
}

StoreIsKept-sealed : (was : StoreState) (is : RecordsState) (stopped : Bool) (old new : Told) (result : Result (Unit {0}) Failed) →
    SealsRecords was.records is result old new → StoreIsKept was old.content →
    OnOk result (StoreIsKept (record { streams = was.streams; records = is; stopped = stopped }) new.content)
StoreIsKept-sealed was is stopped old new (Ok value) seals kept = record {
  records = seals.kept;
  shown = StoreIsIn-also was is stopped (shown_by was.records old.content) (shown_by is new.content) kept.shown
      (seals.keeps_shown.map kept.shown.held.found kept.shown.held.map);
}
StoreIsKept-sealed was is stopped old new (Err e) seals kept = tt

pub SealsStore-records : (was : StoreState) (is : RecordsState) (stopped : Bool) (old new : Told) (result : Result (Unit {0}) Failed) →
    SealsRecords was.records is result old new → StoreIsKept was old.content →
    SealsStore was (record { streams = was.streams; records = is; stopped = stopped }) result old new
SealsStore-records was is stopped old new result seals kept = record {
  kept = StoreIsKept-sealed was is stopped old new result seals kept;
  state = λ streams. TurnsShown-kept was.records is (Recovers streams) old new result (Recovers-of_map streams) kept.records seals.keeps_shown;
  history = SealsHistory-keeps was.records is old new result seals.keeps_shown;
  within = StaysWithin-kept result kept.records seals.keeps_shown;
}
