-- A store in which a stream is created: what is known before the write, and what the store does then.
use Rattle.ss_store.proofs.Common.{◌≡◌, ◌∙◌, ◌∷◌, ◌++◌, ◌+◌, ◌≤◌, ℕ, Bool, true, false, List, [], flat_map, zip, arith, refl, sym, Err, None, Ok, Result}
use Rattle.ss_store.proofs.Common.{DiskView, OfContent, Step, Told, failed, fine, Failed, Create, Params, StreamId, refuses, IsSettled, RecordsState}
use Rattle.ss_store.proofs.Common.{shown_by, records_held, HeldStream, StreamParts, IsNew, Applies, StagesAtCost, StepsState, IsSound, StoreIsIn, StoreIsKept}
use Rattle.ss_store.proofs.Common.{StoreState, refuses_held, LiveSlotsGo, StagesRecord, Disk}
use Rattle.std.proofs.Common.{max}
use Rattle.ss_codec.specs.declared.record.Record.TheVariants as records
use Rattle.ss_parts.specs.declared.read_error.ReadError.TheVariants as fault
use Rattle.ss_store.proofs.Created.{IsFreshPart, IsSound-created, StepsState-created, StoreIsKept-created, said_of_created}
use Rattle.ss_store.proofs.IndexedStreams.{stored}
use Rattle.ss_store.proofs.Refusals.{refuses_held-is}
use Rattle.ss_store.proofs.Taking.{IsTaking, applies-done, applies-failed, taking}

-- What is known before the write: this is a new stream of a store that takes the event.
pub record IsCreating (store : StoreState) (catalog : List (List ℕ × StreamId)) (name : List ℕ) (params : Params) (part : StreamParts) (disk : DiskView) :
    Type 0 where
  pub takes : IsTaking (Create name params) store catalog disk
  pub fresh : IsFreshPart part name params
  pub is_new : IsNew store name params part.id.0 part.slot

pub creating : (held : List HeldStream) {records : RecordsState} {stopped : Bool} {view : StoreState} {catalog : List (List ℕ × StreamId)} {name : List ℕ}
    {params : Params} {part : StreamParts} (disk : DiskView) → stored held records stopped ≡ view → OfContent disk (StoreIsKept view) →
    IsSound (stored held records stopped) catalog → view.stopped ≡ false → refuses_held view.streams (Create name params) ≡ None →
    IsFreshPart part name params → IsNew view name params part.id.0 part.slot →
    IsCreating (stored held records stopped) catalog name params part disk
creating held {name = name} {params = params} {part = part} disk same one_disk sound runs none fresh is_new = record {
  takes = taking held disk same one_disk sound runs none;
  fresh = fresh;
  is_new = rw same is_new;
}

module _ {store : StoreState} {catalog : List (List ℕ × StreamId)} {name : List ℕ} {params : Params} {part : StreamParts} {before : DiskView}
    (is : IsCreating store catalog name params part before) where
  -- the store with it
  abbrev pub with_part : RecordsState → Bool → StoreState
  with_part now stopped = record { streams = store.streams ++ part ∷ []; records = now; stopped = stopped }

  none-of : (kept : StoreIsIn store (shown_by store.records before.told.content)) → refuses kept.streams (Create name params) ≡ None
  none-of kept = sym (refuses_held-is store.streams kept.streams (Create name params) kept.agree kept.state) ∙ is.takes.none

  -- over every disk
  pub sound-unwritten : (now : RecordsState) → IsSound (with_part now true) (catalog ++ (name, part.id) ∷ [])
  sound-unwritten now =
      IsSound-created store catalog now part name params part.slot true is.takes.sound is.takes.runs is.fresh is.is_new
      (λ run. let wrong : true ≡ false = run in cc)

  pub sound-created : (now : RecordsState) → IsSettled now.journal → LiveSlotsGo [] (part.slot ∷ []) store.records.live now.live →
      IsSound (with_part now store.stopped) (catalog ++ (name, part.id) ∷ [])
  sound-created now settled live =
      IsSound-created store catalog now part name params part.slot store.stopped is.takes.sound is.takes.runs is.fresh is.is_new (λ run. (settled, live))

  steps : {T E : Type 0} (now : RecordsState) (after : Told) (call : Result T E) (kept : StoreIsIn store (shown_by store.records before.told.content)) →
      StagesRecord part.slot (records.Stream part.id.0 name params false) store.records now call before.told after →
      StepsState (Create name params) store.records now call before.told after
  steps now after call kept made =
      StepsState-created store (shown_by store.records before.told.content) kept part name params is.fresh is.is_new.next (none-of kept) store.records now
      before.told after call refl made

  -- the event is applied
  pub applies-created : {used most : ℕ} (now : RecordsState) (after : DiskView) (done : Unit {0}) →
      now.journal.extent ≤ max store.records.journal.extent (part.slot + 1) →
      Step fine before after
      (StagesAtCost {T = Unit {0}} {E = Failed}
      (StagesRecord {T = Unit {0}} {E = Failed} part.slot (records.Stream part.id.0 name params false) store.records now (Ok done)) used most
      store.records now (Ok done)) →
      Applies (Create name params) store (with_part now store.stopped) before after (Ok (record { n = 0; k = 0 }))
  applies-created now after done extent step =
      let low = is.is_new.low in
      applies-done is.takes (store.streams ++ part ∷ []) now after (record { n = 0; k = 0 }) done step
      (λ kept made. (
        steps now after.told (Ok done) kept made,
        λ are.
            StoreIsKept-created store (shown_by store.records before.told.content) kept part name params is.fresh is.is_new.next (none-of kept) now
            store.stopped after.told.content are ((made (flat_map records_held (zip store.streams kept.streams))).content kept.held),
      ))
      (omega (arith, extent, low)) (λ new_one. refl) (said_of_created store.streams part name params is.fresh is.is_new.named)
      (λ plain. let wrong : false ≡ true = plain in absurd (cc))

  -- the disk failed
  pub applies-unwritten : {used most : ℕ} (now : RecordsState) (after : DiskView) (e : Failed) →
      Step failed before after
      (StagesAtCost {T = Unit {0}} {E = Failed}
      (StagesRecord {T = Unit {0}} {E = Failed} part.slot (records.Stream part.id.0 name params false) store.records now (Err e)) used most
      store.records now (Err e)) →
      Applies (Create name params) store (with_part now true) before after (Err Disk)
  applies-unwritten now after e step =
      applies-failed is.takes (store.streams ++ part ∷ []) now after fault.Disk (Err e) step (λ kept made. (steps now after.told (Err e) kept made, tt)) tt
