-- A store that takes an event, whichever it is: what is known before the call, and what the store does then.
use Rattle.ss_stream.specs.Changing.{StagesStream}
use Rattle.ss_stream.proofs.LiveSlots.{LiveSlotsGo-none}
use Rattle.ss_store.proofs.Common.{◌≡◌, ◌∙◌, ℕ, ◌+◌, ◌<◌, ◌≤◌, Bool, true, false, List, flat_map, zip, slice_set, length, ap, arith, refl, sym, subst}
use Rattle.ss_store.proofs.Common.{Contains, Err, IfSome, None, Ok, Option, Result, max, slice_get_within, DiskView, IfChanged, IsFirm, OfContent}
use Rattle.ss_store.proofs.Common.{Step, Told, Verdict, fine, step-from, Event, Record, StreamId, event_name, AreKnown, New, IsState, IsState-stepped, Stream}
use Rattle.ss_store.proofs.Common.{stepped, Ack, AllAgree, AreWhole, EndByLast, RiseToLast, TileFrom, entries_of, records_held, slots_held, AreKept, IsSettled}
use Rattle.ss_store.proofs.Common.{RecordsState, shown_by, HeldStream, StreamParts, HasRecords, IsHeldIn, ReadError, verdict_of_read, window_slots_of, Applies}
use Rattle.ss_store.proofs.Common.{IsFew, StandsOn, is_plain_value, leaves_no_value, RecoversToEither, StagesAtCost, StepsState, said_of_held, KeepsWhole}
use Rattle.ss_store.proofs.Common.{apply_of_fault, IsOrdered, values_held, IsSound, SameButSpare, StoreIsIn, StoreIsKept, StoreState, entry_of, part_named}
use Rattle.ss_store.proofs.Common.{refuses_held, without_spare, Recovers, AreSomeLive, LiveSlotsGo}
use Rattle.ss_store.proofs.Among.{AreWhole-at, AreWhole-changed, HasRecords-set, IsHeldIn-at, Marks-at, Recovers-held, others_of}
use Rattle.ss_store.proofs.Applying.{Applies-done, Applies-failed}
use Rattle.ss_store.proofs.IndexedStreams.{stored}
use Rattle.ss_store.proofs.KeptStates.{Recovers-StoreIsIn}
use Rattle.ss_store.proofs.Named.{IsAtPlace, IsPair, IsPair-at}
use Rattle.ss_store.proofs.OneOfMany.{map-set_same, set-same}
use Rattle.ss_store.proofs.Spared.{IsHeldIn-IsSpared, IsSpared, KeepsSpare-set, said_of_set}
use Rattle.ss_store.proofs.Stepping.{StepsState-answers, StepsState-failed, StepsState-turns}
use Rattle.ss_store.proofs.Valued.{MayStep}

-- What is known before: the store is sound and runs, and the event isn't refused.
pub record IsTaking (event : Event) (store : StoreState) (catalog : List (List ℕ × StreamId)) (disk : DiskView) : Type 0 where
  pub one_disk : OfContent disk (StoreIsKept store)
  pub sound : IsSound store catalog
  pub runs : store.stopped ≡ false
  pub none : refuses_held store.streams event ≡ None

-- the same of what is seen of the store and of what it holds
pub taking : {event : Event} (held : List HeldStream) {records : RecordsState} {stopped : Bool} {view : StoreState} {catalog : List (List ℕ × StreamId)}
    (disk : DiskView) → stored held records stopped ≡ view → OfContent disk (StoreIsKept view) → IsSound (stored held records stopped) catalog →
    view.stopped ≡ false → refuses_held view.streams event ≡ None → IsTaking event (stored held records stopped) catalog disk
taking {event} held disk same one_disk sound runs none = record {
  one_disk = rw same one_disk;
  sound = sound;
  runs = ap (λ (s : StoreState). s.stopped) same ∙ runs;
  none = ap (λ (s : StoreState). refuses_held s.streams event) same ∙ none;
}

-- a call stages what makes the store one of these streams
module _ {event : Event} {store : StoreState} {catalog : List (List ℕ × StreamId)} {before : DiskView} (is : IsTaking event store catalog before)
    {S F : Type 0} {change : Told → Told → Type 0} {used most : ℕ} (streams : List StreamParts) (now : RecordsState) (after : DiskView) where
  -- the event is applied
  pub applies-done : (ack : Ack) (value : S) → Step fine before after (StagesAtCost {T = S} {E = F} change used most store.records now (Ok value)) →
      ((kept : StoreIsIn store (shown_by store.records before.told.content)) → change before.told after.told →
      StepsState {T = S} {E = F} event store.records now (Ok value) before.told after.told
      × (AreKept now after.told.content → StoreIsKept (record { streams = streams; records = now; stopped = store.stopped }) after.told.content)) →
      now.journal.extent ≤ max store.records.journal.extent (length (flat_map slots_held store.streams) + 1) →
      (leaves_no_value event ≡ true → ack ≡ record { n = 0; k = 0 }) → ack ≡ said_of_held (part_named (event_name event) streams) →
      (is_plain_value store.streams event ≡ true → IsFew streams event ack) →
      Applies event store (record { streams = streams; records = now; stopped = store.stopped }) before after (Ok ack)
  applies-done ack value step does extent new_one said few =
      Applies-done event store (record { streams = streams; records = now; stopped = store.stopped }) is.none before after ack
      (step-from step (λ told staged.
      let made = does (is.one_disk told).shown staged.changes in
      (StepsState-answers event store.records now before.told after.told value (Ok ack) made.0, made.1 staged.kept)))
      new_one said few refl extent

  -- the call failed
  pub applies-failed : (why : ReadError) (call : Result S F) →
      Step (verdict_of_read {T = Unit {0}} (Err why)) before after (StagesAtCost change used most store.records now call) →
      ((kept : StoreIsIn store (shown_by store.records before.told.content)) → change before.told after.told →
      StepsState event store.records now call before.told after.told × IsFirm (verdict_of_read {T = Unit {0}} (Err why))) →
      IfChanged (verdict_of_read {T = Unit {0}} (Err why))
      (λ slot. IfSome (part_named (event_name event) streams) (λ part. Contains (window_slots_of part) slot)) →
      Applies event store (record { streams = streams; records = now; stopped = true }) before after (Err (apply_of_fault why))
  applies-failed why call step does held =
      Applies-failed event store (record { streams = streams; records = now; stopped = true }) is.none before after why
      (step-from step (λ told staged.
      StepsState-failed event store.records now now before.told after.told call (apply_of_fault why) (does (is.one_disk told).shown staged.changes).0))
      (λ told. (does (is.one_disk told).shown (step.told told).changes).1) held refl

-- And the stream of the event's name stands at a place, and was given room for it.
pub record IsTakingAt (event : Event) (store : StoreState) (catalog : List (List ℕ × StreamId)) (place : ℕ) (part spared : StreamParts) (disk : DiskView) :
    Type 0 where
  pub takes : IsTaking event store catalog disk
  pub stands : IsAtPlace (event_name event) place store.streams part
  pub room : IsSpared part spared

module _ {event : Event} {store : StoreState} {catalog : List (List ℕ × StreamId)} {place : ℕ} {part spared : StreamParts} {before : DiskView}
    (is : IsTakingAt event store catalog place part spared before) where
  -- a store with this stream in its place
  abbrev pub with_stream : StreamParts → RecordsState → Bool → StoreState
  with_stream now records stopped = record { streams = slice_set store.streams place now; records = records; stopped = stopped }

  pub inside : place < length store.streams
  inside = slice_get_within store.streams place part is.stands.at

  -- ---- over every disk

  whole : AreWhole store.streams store.records.live
  whole = is.takes.sound.whole is.takes.runs

  slots-spared : slots_held spared ≡ slots_held part
  slots-spared = ap slots_held is.room.same

  pub ordered-spared : IsOrdered spared
  ordered-spared =
      let ordered = (AreWhole-at store.streams store.records.live place part whole is.stands.at).0 in
      record {
        tiles = subst (λ (p : StreamParts). TileFrom 1 (entries_of p)) (sym is.room.same) ordered.tiles;
        times = subst (λ (p : StreamParts). RiseToLast p) (sym is.room.same) ordered.times;
      }

  pub ends-spared : EndByLast spared
  ends-spared = subst (λ p. EndByLast p) (sym is.room.same) (Marks-at store.streams store.records.live place part whole is.stands.at).1

  pub live-spared : AreSomeLive (slots_held spared) store.records.live
  live-spared =
      subst (λ l. AreSomeLive l store.records.live) (sym slots-spared) (AreWhole-at store.streams store.records.live place part whole is.stands.at).1

  pub its-name : (now : StreamParts) → now.name ≡ spared.name → now.name ≡ part.name
  its-name now same = same ∙ ap (λ (p : StreamParts). p.name) is.room.same

  module _ (now : StreamParts) (records : RecordsState) (same_id : now.id ≡ spared.id) (same : now.name ≡ spared.name) where
    its-id : now.id ≡ part.id
    its-id = same_id ∙ ap (λ (p : StreamParts). p.id) is.room.same

    sound-with : (stopped : Bool) → (stopped ≡ false → IsSettled records.journal × AreWhole (slice_set store.streams place now) records.live) →
        IsSound (with_stream now records stopped) catalog
    sound-with stopped goes =
        let name = its-name now same in
        let entry : entry_of now ≡ entry_of part = rw (name, its-id) refl in
        record {
          listed = is.takes.sound.listed ∙ sym (map-set_same entry_of store.streams place part now is.stands.at entry);
          numbers = rw (map-set_same (λ (p : StreamParts). p.id.0) store.streams place part now is.stands.at (ap (λ (i : StreamId). i.0) its-id))
              is.takes.sound.numbers;
          settled = λ run. (goes run).0;
          whole = λ run. (goes run).1;
        }

    pub sound-stopped : IsSound (with_stream now records true) catalog
    sound-stopped = sound-with true (λ run. let wrong : true ≡ false = run in cc)

    pub sound-taken : {used : ℕ} → KeepsWhole spared now store.records records used → AreKnown now.landmarks × EndByLast now →
        IsSound (with_stream now records store.stopped) catalog
    sound-taken keeps marks =
        sound-with store.stopped (λ run. (
          keeps.settled,
          AreWhole-changed store.streams store.records.live records.live place part now whole is.stands.at its-id (its-name now same) keeps.ordered marks
              (subst (λ l. LiveSlotsGo l (slots_held now) store.records.live records.live) slots-spared keeps.live),
        ))

  pub sound-spared : IsSound (with_stream spared store.records store.stopped) catalog
  sound-spared =
      sound-taken spared store.records refl refl {used = 0}
      (record {
        ordered = ordered-spared;
        live = LiveSlotsGo-none (slots_held spared) store.records.live;
        settled = is.takes.sound.settled is.takes.runs;
        extent = omega arith;
      })
      (is.room.known, ends-spared)

  pub same-spared : SameButSpare store (with_stream spared store.records store.stopped)
  same-spared = record {
    streams = map-set_same without_spare store.streams place part spared is.stands.at is.room.same;
    spares = KeepsSpare-set store.streams place part spared is.stands.at is.room.spare;
    records = refl;
    stopped = refl;
  }

  -- ---- on a disk that tells

  module _ (kept : StoreIsIn store (shown_by store.records before.told.content)) where
    -- the stream of the state, and the records of the others
    pub pair : IsPair store.streams kept.streams place part
    pair = IsPair-at store.streams kept.streams place part kept.agree kept.state is.stands.at

    abbrev pub beside : List (ℕ × Option Record)
    beside = others_of place store.streams kept.streams

    -- the stream before the call, among the others
    pub held-before : IsHeldIn beside spared pair.stream (shown_by store.records before.told.content)
    held-before =
        IsHeldIn-IsSpared beside part spared pair.stream (shown_by store.records before.told.content) is.room
        (IsHeldIn-at store.streams kept.streams place part pair.stream (shown_by store.records before.told.content) kept.agree kept.state is.stands.at
        pair.here kept.held)

    -- what an image has that has the records of a stream in its place
    in-place : (now : StreamParts) (next : Stream) (streams : List Stream) (image : List ℕ) → slice_set kept.streams place next ≡ streams →
        IsHeldIn beside now next image →
        AllAgree (slice_set store.streams place now) streams
        × HasRecords (flat_map records_held (zip (slice_set store.streams place now) streams)) image
    in-place now next streams image same held = rw same at (HasRecords-set store.streams kept.streams place now next image kept.agree inside held)

    pub recovers-before : (image : List ℕ) → IsHeldIn beside spared pair.stream image → Recovers kept.streams image
    recovers-before image held =
        let both = in-place spared pair.stream kept.streams image (set-same kept.streams place pair.stream pair.here) held in
        rw kept.closed at (Recovers-held (slice_set store.streams place spared) kept.streams image both.0 kept.state both.1)

    in-spared : StoreIsIn (with_stream spared store.records store.stopped) (shown_by store.records before.told.content)
    in-spared =
        let both = in-place spared pair.stream kept.streams (shown_by store.records before.told.content)
        (set-same kept.streams place pair.stream pair.here) held-before in
        record { streams = kept.streams; state = kept.state; agree = both.0; held = both.1; closed = kept.closed }

    module _ (now : StreamParts) (next : Stream) (step : MayStep kept.streams event place next) where
      state-then : IsState (stepped kept.streams event)
      state-then = IsState-stepped New kept.streams event step.state step.said step.none

      kept-stepped : (records : RecordsState) (stopped : Bool) (image : List ℕ) → AreKept records image →
          IsHeldIn beside now next (shown_by records image) → StoreIsKept (with_stream now records stopped) image
      kept-stepped records stopped image are held =
          let both = in-place now next (stepped kept.streams event) (shown_by records image) step.is held in
          record {
            records = are;
            shown = record { streams = stepped kept.streams event; state = state-then; agree = both.0; held = both.1; closed = step.closed };
          }

      recovers-after : (image : List ℕ) → IsHeldIn beside now next image → Recovers (stepped kept.streams event) image
      recovers-after image held =
          let both = in-place now next (stepped kept.streams event) image step.is held in
          rw step.closed at (Recovers-held (slice_set store.streams place now) (stepped kept.streams event) image both.0 state-then both.1)

  pub stands-spared : StandsOn (with_stream spared store.records store.stopped) before
  stands-spared run told =
      let was = is.takes.one_disk told in
      record { records = was.records; shown = in-spared was.shown }

  -- what the call of the stream leaves in a crash, and what the event makes of the stream, in each state that is shown
  module _ (F : Type 0) (during : List (ℕ × Option Record) → Stream → List ℕ → Type 0) (next : Stream → Stream)
      (left : (kept : StoreIsIn store (shown_by store.records before.told.content)) (image : List ℕ) → during (beside kept) (pair kept).stream image →
      RecoversToEither kept.streams event image)
      (may : (kept : StoreIsIn store (shown_by store.records before.told.content)) → MayStep kept.streams event place (next (pair kept).stream))
      (now : StreamParts) (records : RecordsState) (same : now.name ≡ spared.name) where
    steps : {v : Verdict} (call : Result (Unit {0}) F) (after : Told) (kept : StoreIsIn store (shown_by store.records before.told.content)) →
        StagesStream v spared during (λ others s. IsHeldIn others now (next s)) store.records records call before.told after →
        StepsState event store.records records call before.told after
    steps call after kept staged =
        StepsState-turns event store.records records before.told after call kept.streams (IsHeldIn (beside kept) spared (pair kept).stream)
        (during (beside kept) (pair kept).stream) (IsHeldIn (beside kept) now (next (pair kept).stream))
        (Recovers-StoreIsIn store (shown_by store.records before.told.content) kept) (held-before kept) (left kept)
        (recovers-after kept now (next (pair kept).stream) (may kept)) (staged.turns (beside kept) (pair kept).stream)

    module _ {used most : ℕ} (after : DiskView) where
      pub applies-taken : {v : Verdict} (n k : ℕ) (done : Unit {0}) →
          Step fine before after
          (StagesAtCost {T = Unit {0}} {E = F} (StagesStream {T = Unit {0}} {E = F} v spared during (λ others s. IsHeldIn others now (next s)) store.records
          records (Ok done)) used most store.records records (Ok done)) →
          records.journal.extent ≤ max store.records.journal.extent (length (flat_map slots_held store.streams) + 1) →
          n ≡ values_held (entries_of now) → k ≡ length now.line.entries → (leaves_no_value event ≡ true → ⊥) →
          (is_plain_value store.streams event ≡ true → IsFew (slice_set store.streams place now) event (record { n = n; k = k })) →
          Applies event store (with_stream now records store.stopped) before after (Ok (record { n = n; k = k }))
      applies-taken n k done step extent values windows none_left few =
          applies-done is.takes (slice_set store.streams place now) records after (record { n = n; k = k }) done step
          (λ kept staged. (
            steps (Ok done) after.told kept staged,
            λ are.
                kept-stepped kept now (next (pair kept).stream) (may kept) records store.stopped after.told.content are
                ((staged.turns (beside kept) (pair kept).stream).content (held-before kept)),
          ))
          extent (λ made. absurd (none_left made))
          (said_of_set (event_name event) store.streams place part now n k is.takes.sound.numbers is.stands.named is.stands.at (its-name now same) values
          windows)
          few

      pub applies-untaken : (why : ReadError) (error : F) →
          Step (verdict_of_read {T = Unit {0}} (Err why)) before after
          (StagesAtCost {T = Unit {0}} {E = F} (StagesStream {T = Unit {0}} {E = F} (verdict_of_read {T = Unit {0}} (Err why)) spared during
          (λ others s. IsHeldIn others now (next s)) store.records records (Err error)) used most store.records records (Err error)) →
          IfChanged (verdict_of_read {T = Unit {0}} (Err why))
          (λ slot. IfSome (part_named (event_name event) (slice_set store.streams place now)) (λ part. Contains (window_slots_of part) slot)) →
          Applies event store (with_stream now records true) before after (Err (apply_of_fault why))
      applies-untaken why error step held =
          applies-failed is.takes (slice_set store.streams place now) records after why (Err error) step
          (λ kept staged. (steps (Err error) after.told kept staged, staged.firm (beside kept) (pair kept).stream (held-before kept)))
          held
