-- What an event does to a store: refused, out of memory, failed, done.
use Rattle.ss_store.proofs.Common.{◌≡◌, ◌∙◌, ℕ, ◌+◌, ◌≤◌, true, false, Err, List, None, Ok, Option, Result, Some, ap, flat_map, length, refl, sym, Contains}
use Rattle.ss_store.proofs.Common.{IfSome, reads-none, KnowsNow, DiskView, Told, Step, IfChanged, IsFirm, fine, event_name, Event, Refusal, stepped, Ack}
use Rattle.ss_store.proofs.Common.{slots_held, StreamParts, Applies, IsFew, StandsOn, leaves_no_value, is_plain_value, RecordsState, RecoversToEither}
use Rattle.ss_store.proofs.Common.{StepsState, said_of_held, ChangedIsHeld, window_slots_of, apply_of_fault, verdict_of_read, SameButSpare, StoreIsKept}
use Rattle.ss_store.proofs.Common.{StoreState, part_named, refuses_held, Recovers, ApplyError, ReadError}
use Rattle.std.proofs.Common.{max}
use Rattle.std.specs.Prelude.{IsTrue}
use Rattle.ss_outside.specs.Disk.{WhereTold}
use Rattle.ss_store.specs.declared.error.ApplyError.TheVariants as apply
use Rattle.ss_parts.specs.declared.read_error.ReadError.TheVariants as fault
use Rattle.ss_stream.proofs.ShownCalls.{TurnsShown-failed, TurnsShown-reads}
use Rattle.ss_store.proofs.Stepping.{IsRefusedBy}

-- without a call of the disk no step is made
StepsState-none : (event : Event) (was is : RecordsState) (disk : Told) (e : ApplyError) → KnowsNow disk →
    StepsState {T = Ack} event was is (Err e) disk disk
StepsState-none event was is disk e knows =
    λ all.
    let none : Result Ack ApplyError = Err e in
    TurnsShown-failed was was is (Recovers all) (RecoversToEither all event) (Recovers all) (Recovers (stepped all event)) disk disk none none refl
    (TurnsShown-reads was was (Recovers all) (RecoversToEither all event) disk disk none knows (reads-none disk) tt)

-- an answer that is no refusal, where none applies
accepted-exactly : (why : Option Refusal) (result : Result Ack ApplyError) → why ≡ None → ((r : Refusal) → result ≡ Err (apply.Refused r) → ⊥) →
    IsRefusedBy why result
accepted-exactly why result none never r = (λ is. absurd (never r is), λ is. let wrong : None ≡ Some r = sym none ∙ is in cc)

refused-exactly : (why : Option Refusal) (r : Refusal) → why ≡ Some r → IsRefusedBy {T = Ack} why (Err (apply.Refused r))
refused-exactly why r is other = (
  λ same. let this : r ≡ other = cc in is ∙ ap Some this,
  λ also. let this : r ≡ other = cc in ap (λ x. Err (apply.Refused x)) this,
)

-- the slot whose record has changed is one of the stream of a name
pub held_by_named : (name : List ℕ) (parts : List StreamParts) (now : StreamParts) (why : ReadError) → part_named name parts ≡ Some now →
    ChangedIsHeld (verdict_of_read {T = Unit {0}} (Err why)) now →
    IfChanged (verdict_of_read {T = Unit {0}} (Err why)) (λ slot. IfSome (part_named name parts) (λ part. Contains (window_slots_of part) slot))
held_by_named name parts now fault.Disk named held = tt
held_by_named name parts now (fault.Changed slot) named held = rw named held

module _ (event : Event) (old : StoreState) where
  pub Applies-refused : (disk : DiskView) (r : Refusal) → refuses_held old.streams event ≡ Some r → StandsOn old disk → WhereTold disk KnowsNow →
      Applies event old old disk disk (Err (apply.Refused r))
  Applies-refused disk r is stands knows = record {
    step = record { tells = refl; counted = refl; told = λ told. StepsState-none event old.records old.records disk.told (apply.Refused r) (knows told) };
    stands = stands;
    ack = tt;
    decay = λ plain. tt;
    empty = λ made. tt;
    refused = refused-exactly (refuses_held old.streams event) r is;
    same = refl;
    starved = tt;
    stops = refl;
    firm = λ told. tt;
    extent = tt;
    changed = tt;
  }

  module _ (new : StoreState) (none : refuses_held old.streams event ≡ None) where
    pub Applies-starved : (disk : DiskView) → SameButSpare old new → StandsOn new disk → WhereTold disk KnowsNow →
        Applies event old new disk disk (Err apply.OutOfMemory)
    Applies-starved disk same stands knows = record {
      step = record { tells = refl; counted = refl; told = λ told. StepsState-none event old.records new.records disk.told apply.OutOfMemory (knows told) };
      stands = stands;
      ack = tt;
      decay = λ plain. tt;
      empty = λ made. tt;
      refused = accepted-exactly (refuses_held old.streams event) (Err apply.OutOfMemory) none (λ r wrong. cc);
      same = tt;
      starved = same;
      stops = same.stopped;
      firm = λ told. tt;
      extent = tt;
      changed = tt;
    }

    module _ (before after : DiskView) where
      pub Applies-done : (ack : Ack) → Step fine before after
          (λ o n. StepsState {E = ApplyError} event old.records new.records (Ok ack) o n × StoreIsKept new n.content) →
          (leaves_no_value event ≡ true → ack ≡ record { n = 0; k = 0 }) → ack ≡ said_of_held (part_named (event_name event) new.streams) →
          (is_plain_value old.streams event ≡ true → IsFew new.streams event ack) →
          new.stopped ≡ old.stopped →
          new.records.journal.extent ≤ max old.records.journal.extent (length (flat_map slots_held old.streams) + 1) →
          Applies event old new before after (Ok ack)
      Applies-done ack step new_one said few runs extent = record {
        step = record { tells = step.tells; counted = step.counted; told = λ told. (step.told told).0 };
        stands = λ run told. (step.told (sym step.tells ∙ told)).1;
        ack = said;
        decay = few;
        empty = new_one;
        refused = accepted-exactly (refuses_held old.streams event) (Ok ack) none (λ r wrong. cc);
        same = tt;
        starved = tt;
        stops = runs;
        firm = λ told. tt;
        extent = extent;
        changed = tt;
      }

      pub Applies-failed : (why : ReadError) →
          Step (verdict_of_read {T = Unit {0}} (Err why)) before after (StepsState {T = Ack} event old.records new.records (Err (apply_of_fault why))) →
          (IsTrue before.tells → IsFirm (verdict_of_read {T = Unit {0}} (Err why))) →
          IfChanged (verdict_of_read {T = Unit {0}} (Err why))
          (λ slot. IfSome (part_named (event_name event) new.streams) (λ part. Contains (window_slots_of part) slot)) →
          new.stopped ≡ true →
          Applies event old new before after (Err (apply_of_fault why))
      Applies-failed fault.Disk step firm held stops = record {
        step = step;
        stands = λ run. let wrong : true ≡ false = sym stops ∙ run in cc;
        ack = tt;
        decay = λ plain. tt;
        empty = λ made. tt;
        refused = accepted-exactly (refuses_held old.streams event) (Err apply.Disk) none (λ r wrong. cc);
        same = tt;
        starved = tt;
        stops = stops;
        firm = λ told. tt;
        extent = tt;
        changed = tt;
      }
      Applies-failed (fault.Changed slot) step firm held stops = record {
        step = step;
        stands = λ run. let wrong : true ≡ false = sym stops ∙ run in cc;
        ack = tt;
        decay = λ plain. tt;
        empty = λ made. tt;
        refused = accepted-exactly (refuses_held old.streams event) (Err (apply.Changed slot)) none (λ r wrong. cc);
        same = tt;
        starved = tt;
        stops = stops;
        firm = firm;
        extent = tt;
        changed = held;
      }
