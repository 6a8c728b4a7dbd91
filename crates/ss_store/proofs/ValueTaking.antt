-- A store one of whose streams takes a value outside landmarks: what is known before the call, and what the store does then.
use Rattle.ss_store.proofs.Common.{◌≡◌, ◌∙◌, ℕ, ℤ, ◌+◌, ◌<◌, ◌≤◌, Bool, true, false, List, flat_map, get_or, slice_set, length, ap, arith, inl, inr, sym, Err}
use Rattle.ss_store.proofs.Common.{None, Ok, Some, DiskView, OfContent, Step, fine, Value, StreamId, LineState, CanBeSaid, New, with_plain_value, has_open}
use Rattle.ss_store.proofs.Common.{AreKnown, EndByLast, RecordsState, shown_by, entries_of, slots_held, StreamParts, IsTaker, Applies, StagesAtCost}
use Rattle.ss_store.proofs.Common.{ChangedIsHeld, NoneAreDue, RecoversToEither, apply_of_fault, verdict_of_read, IsHalfway, IsSameStream, values_held}
use Rattle.ss_store.proofs.Common.{with_single, held_parts, HeldStream, Index, IsReservedFor, StandsAfter, is_past, IsSound, StoreIsIn, StoreIsKept, StoreState}
use Rattle.ss_store.proofs.Common.{refuses_held, same_name, ReadError}
use Rattle.ss_line.specs.declared.line.TheConstants.{MOST_PLACES}
use Rattle.ss_stream.specs.Changing.{TakesValue}
use Rattle.ss_stream.specs.Indexed.{CanAppend}
use Rattle.ss_stream.proofs.Rising.{IsNoEarlier-past}
use Rattle.ss_stream.proofs.HeldCounts.{values_held-Agrees}
use Rattle.ss_store.proofs.Among.{EndByLast-later, Recovers-partly}
use Rattle.ss_store.proofs.Applying.{held_by_named}
use Rattle.ss_store.proofs.Decays.{KeepsToTarget-taken}
use Rattle.ss_store.proofs.IndexedStreams.{parts-read, stored}
use Rattle.ss_store.proofs.LiveCounts.{few-slots, length-slots_held}
use Rattle.ss_store.proofs.Refusals.{refuses_held-is}
use Rattle.ss_store.proofs.Spared.{IsSpared-line, part-read, part_named-set, same_name-part}
use Rattle.ss_store.proofs.Taking.{IsTakingAt, applies-taken, applies-untaken, beside, ends-spared, inside, its-name, ordered-spared, pair, recovers-before}
use Rattle.ss_store.proofs.Taking.{taking, with_stream}
use Rattle.ss_store.proofs.Valued.{IsState-single, MayStep-valued, MayTake, closed-partly}

-- What is known before: a stream of the store may take the value, and its line was given room.
pub record IsTakingValue (store : StoreState) (catalog : List (List ℕ × StreamId)) (name : List ℕ) (t : ℕ) (v : ℤ) (place slot : ℕ)
    (was : StreamParts) (line : LineState) (disk : DiskView) : Type 0 where
  pub taker : IsTaker store name t place slot
  pub said : CanBeSaid (Value name t v)
  pub entries : line.entries ≡ was.line.entries
  pub same : taker.part ≡ was
  pub is : IsTakingAt (Value name t v) store catalog place taker.part (record was { line = line }) disk

pub taking-value : (held : List HeldStream) {records : RecordsState} {stopped : Bool} {view : StoreState} {catalog : List (List ℕ × StreamId)}
    {name : List ℕ} {t : ℕ} {v : ℤ} {place slot : ℕ} {stream : HeldStream} {line : LineState} (disk : DiskView) → stored held records stopped ≡ view →
    OfContent disk (StoreIsKept view) → IsSound (stored held records stopped) catalog → view.stopped ≡ false → IsTaker view name t place slot →
    refuses_held view.streams (Value name t v) ≡ None → CanBeSaid (Value name t v) → stream ≡ get_or held place stream →
    line.entries ≡ stream.part.line.entries → stream.part.line.spare ≤ line.spare →
    IsTakingValue (stored held records stopped) catalog name t v place slot stream.part line disk
taking-value held {records} {stopped} {name = name} {t = t} {place = place} {slot = slot} {stream = stream} {line = line} disk same one_disk sound runs
    taker none said read entries grows =
    let its = rw (← same) at taker in
    let takes = taking held disk same one_disk sound runs none in
    let part = part-read (held_parts held) place its.part stream.part its.at (parts-read held place read) in
    record {
      taker = its;
      said = said;
      entries = entries;
      same = part;
      is = record {
        takes = takes;
        stands = record { named = its.named; at = its.at };
        room = IsSpared-line (stored held records stopped) place its.part stream.part part its.at (takes.sound.whole takes.runs) line entries grows;
      };
    }

module _ {store : StoreState} {catalog : List (List ℕ × StreamId)} {name : List ℕ} {t : ℕ} {v : ℤ} {place slot : ℕ} {was : StreamParts}
    {line : LineState} {before : DiskView} (it : IsTakingValue store catalog name t v place slot was line before) where
  pub few-taker : length was.line.entries < MOST_PLACES
  few-taker = let few = rw it.same at it.taker.few in omega (arith, few)

  pub few-records : length was.line.entries + 1 ≤ length (flat_map slots_held store.streams)
  few-records = omega (
    arith,
    few-slots store.streams place it.taker.part it.taker.at,
    length-slots_held it.taker.part,
    ap (λ (p : StreamParts). length p.line.entries) it.same,
  )

  pub later-taker : is_past was.last_time t ≡ false
  later-taker = rw (← it.same) it.taker.later

  pub can-append : (index : Index) → 1 ≤ line.spare → IsReservedFor t (record { part = record was { line = line }; index = index }) →
      CanAppend (record { part = record was { line = line }; index = index }) t
  can-append index spare reserved = record {
    spare = spare;
    reserved = reserved;
    room = rw (it.entries, ← it.same) it.taker.room;
    plain = rw (← it.same) it.taker.plain;
    later = later-taker;
    ordered = ordered-spared it.is;
  }

  may : (kept : StoreIsIn store (shown_by store.records before.told.content)) → MayTake kept.streams name t v place (pair it.is kept).stream
  may kept =
      let its = pair it.is kept in
      record {
        state = kept.state;
        none = sym (refuses_held-is store.streams kept.streams (Value name t v) kept.agree kept.state) ∙ it.is.takes.none;
        said = it.said;
        here = its.here;
        named = ap (λ n. same_name name n) (sym its.agrees.name) ∙ same_name-part name store.streams it.taker.part it.taker.named;
        plain = ap has_open (sym its.agrees.landmarks) ∙ it.taker.plain;
        later = ap (λ o. is_past o t) (sym its.agrees.last_time) ∙ it.taker.later;
        few = omega (arith, it.taker.room, values_held-Agrees it.taker.part its.stream its.is its.agrees);
      }

  -- a crash leaves the stream from before, or with the value, however many of its windows were joined
  either : (kept : StoreIsIn store (shown_by store.records before.told.content)) (image : List ℕ) →
      IsHalfway (beside it.is kept) (record was { line = line }) (pair it.is kept).stream t v image → RecoversToEither kept.streams (Value name t v) image
  either kept image (inl still) = inl (recovers-before it.is kept image still)
  either kept image (inr partly) =
      let s = (pair it.is kept).stream in
      inr (rw (closed-partly kept.streams name t v place s (may kept) kept.closed) at
      (Recovers-partly store.streams kept.streams place (with_single s t v) image kept.agree (inside it.is)
      (IsState-single kept.streams name t v place s (may kept)) partly))

  module _ (now : StreamParts) (records : RecordsState) (same : IsSameStream (record was { line = line }) now) where
    -- the landmarks stay
    pub marks-taken : now.last_time ≡ Some t → AreKnown now.landmarks × EndByLast now
    marks-taken last = (
      rw same.landmarks it.is.room.known,
      EndByLast-later (record was { line = line }) now same.landmarks (IsNoEarlier-past was.last_time now.last_time t last later-taker) (ends-spared it.is),
    )

    -- the event is applied
    pub applies-valued : {used most : ℕ} {index : Index} (after : DiskView) (n k : ℕ) (done : Unit {0}) →
        StandsAfter (record was { line = line }) (record { part = now; index = index }) store.records records (slot + 1)
        (values_held (entries_of (record was { line = line })) + 1) (Some t) →
        Step fine before after
        (StagesAtCost {T = Unit {0}} {E = ReadError} (TakesValue (record was { line = line }) now t v store.records records (Ok done)) used most
        store.records records (Ok done)) →
        NoneAreDue now → n ≡ values_held (entries_of now) → k ≡ length now.line.entries →
        Applies (Value name t v) store (with_stream it.is now records store.stopped) before after (Ok (record { n = n; k = k }))
    applies-valued after n k done stands step none_due values windows =
        let extent = stands.whole.extent in
        let low = it.taker.low in
        let some : 0 < n = omega (arith, values, stands.holds.values) in
        applies-taken it.is ReadError (λ others s. IsHalfway others (record was { line = line }) s t v) (λ s. with_plain_value s (t, v, New)) either
        (λ kept. MayStep-valued kept.streams name t v place (pair it.is kept).stream (may kept) kept.closed) now records same.name after n k done step
        (omega (arith, extent, low)) values windows (λ made. let wrong : false ≡ true = made in cc)
        (λ plain.
        KeepsToTarget-taken store catalog name t place slot now n k it.is.takes.sound it.taker (its-name it.is now same.name) values windows
        stands.whole.ordered.tiles none_due some)

    -- the call failed
    pub applies-unvalued : {used most : ℕ} (after : DiskView) (why : ReadError) →
        Step (verdict_of_read {T = Unit {0}} (Err why)) before after
        (StagesAtCost {T = Unit {0}} {E = ReadError} (TakesValue (record was { line = line }) now t v store.records records (Err why)) used most
        store.records records (Err why)) →
        ChangedIsHeld (verdict_of_read {T = Unit {0}} (Err why)) now →
        Applies (Value name t v) store (with_stream it.is now records true) before after (Err (apply_of_fault why))
    applies-unvalued after why step held =
        applies-untaken it.is ReadError (λ others s. IsHalfway others (record was { line = line }) s t v) (λ s. with_plain_value s (t, v, New)) either
        (λ kept. MayStep-valued kept.streams name t v place (pair it.is kept).stream (may kept) kept.closed) now records same.name after why why step
        (held_by_named name (slice_set store.streams place now) now why
        (part_named-set name store.streams place it.taker.part now it.is.takes.sound.numbers it.taker.named it.taker.at (its-name it.is now same.name)) held)
