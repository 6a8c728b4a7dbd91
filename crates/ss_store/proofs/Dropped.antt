-- A store in which a stream is dropped: what is held then, and what the event does.
use Rattle.ss_store.proofs.Common.{◌≡◌, ◌∙◌, ℕ, zero, suc, ◌<◌, Bool, true, false, List, [], ◌∷◌, ◌++◌, length, map, flat_map, remove, zip, refl, ap, sym}
use Rattle.ss_store.proofs.Common.{arith, inl, inr, Err, Ok, Result, Some, IsPermutation, get_or, ◌==◌, AllByRecursion, IsDistinct, list_any, cases_eq, eq-eqb}
use Rattle.ss_store.proofs.Common.{ne_eqb, length-map, IsPermutation-append_comm, IsPermutation-append_left, IsPermutation-trans, get_or_from_slice_get}
use Rattle.ss_store.proofs.Common.{slice_get-map, slice_get_within, DiskView, OfContent, Told, Step, failed, fine, Failed, IsSettled, Record, Option, same_name}
use Rattle.ss_store.proofs.Common.{Drop, StreamId, AreKnown, Entry, AreKept, RecordsState, shown_by, closed_state, closed_stream, IsState, Stream, numbers_of}
use Rattle.ss_store.proofs.Common.{stepped, Ack, same_name-Decides, same_name-swap, HasRecords, is_of, records_beside, without_numbered, AllAgree, AreWhole}
use Rattle.ss_store.proofs.Common.{EndByLast, RiseToLast, TileFrom, entries_of, mark_slots, occupied, records_held, slots_held, HeldStream, StreamParts}
use Rattle.ss_store.proofs.Common.{held_parts, all_weaker, HasWholeSlots-StandsFor, Applies, RecoversToEither, StepsState, said_of_held, StagesAtCost}
use Rattle.ss_store.proofs.Common.{IsHeldBeside, RecoversWithOrWithout, StagesDrop, slots_in_turn, IsSound, StoreIsIn, StoreIsKept, StoreState, entry_of}
use Rattle.ss_store.proofs.Common.{part_named, refuses_held, Recovers, AreSomeLive, LiveSlotsGo, live_slots, Disk, carried-AreHeld}
use Rattle.std.proofs.Common.{slice_get}
use Rattle.std.proofs.lemmas.List.Edits.{length-remove}
use Rattle.ss_catalog.specs.Catalog.{without_name}
use Rattle.ss_model.specs.Steps.{without_named, stepped_from}
use Rattle.ss_model.proofs.DropLemmas.{IsState-without, without_named-place, without_number-place}
use Rattle.ss_parts.specs.declared.read_error.ReadError.TheVariants as fault
use Rattle.ss_parts.proofs.Lists.{map-all}
use Rattle.ss_store.proofs.Among.{Agrees-both, Recovers-held, length-AllAgree, others_of}
use Rattle.ss_store.proofs.DroppedRecords.{none-of-all}
use Rattle.ss_store.proofs.IndexedStreams.{stored}
use Rattle.ss_store.proofs.KeptStates.{Recovers-StoreIsIn}
use Rattle.ss_store.proofs.Named.{IsAtPlace, IsPair, IsPair-at}
use Rattle.ss_store.proofs.OneOfMany.{IsPermutation-parted, slice_get-zip}
use Rattle.ss_store.proofs.Refusals.{refuses_held-dropped}
use Rattle.ss_store.proofs.Removed.{All-remove, IsDistinct-remove, IsStrictlyIncreasing-remove, all-zip, filter-remove, find-none, find-passes}
use Rattle.ss_store.proofs.Removed.{map-remove, numbers-differ, others-differ, zip-remove}
use Rattle.ss_store.proofs.Stepping.{StepsState-turns}
use Rattle.ss_store.proofs.Taking.{IsTaking, applies-done, applies-failed, taking}

-- ---- what is held without the stream at a place

AllAgree-remove : (parts : List StreamParts) (streams : List Stream) (place : ℕ) → AllAgree parts streams →
    AllAgree (remove parts place) (remove streams place)
AllAgree-remove [] [] zero each = each
AllAgree-remove [] [] (suc place) each = each
AllAgree-remove [] (s ∷ ss) place each = absurd each
AllAgree-remove (p ∷ ps) [] place each = absurd each
AllAgree-remove (p ∷ ps) (s ∷ ss) zero each = each.1
AllAgree-remove (p ∷ ps) (s ∷ ss) (suc place) each = (each.0, AllAgree-remove ps ss place each.1)

-- the others of the slots that are live, and those of the stream
slots-turned : (part : StreamParts) (others : List ℕ) → IsPermutation (slots_in_turn part ++ others) (slots_held part ++ others)
slots-turned part others =
    let front = map (λ (e : Entry). e.slot) (entries_of part) ++ mark_slots part in
    IsPermutation-append_left others (front ++ part.slot ∷ []) (part.slot ∷ front) (IsPermutation-append_comm front (part.slot ∷ []))

slots-live : (parts : List StreamParts) (live : List Bool) (place : ℕ) (part : StreamParts) → AreWhole parts live → slice_get parts place ≡ Some part →
    IsPermutation (slots_in_turn part ++ flat_map slots_held (remove parts place)) (live_slots live)
slots-live parts live place part whole at =
    let others = flat_map slots_held (remove parts place) in
    IsPermutation-trans (slots_in_turn part ++ others) (slots_held part ++ others) (live_slots live) (slots-turned part others)
    (IsPermutation-trans (slots_held part ++ others) (flat_map slots_held parts) (live_slots live) (IsPermutation-parted slots_held parts place part at)
    whole.slots)

pub AreSomeLive-turned : (parts : List StreamParts) (live : List Bool) (place : ℕ) (part : StreamParts) → AreWhole parts live →
    slice_get parts place ≡ Some part → AreSomeLive (slots_in_turn part) live
AreSomeLive-turned parts live place part whole at = (flat_map slots_held (remove parts place), slots-live parts live place part whole at)

AreWhole-dropped : (parts : List StreamParts) (live live_now : List Bool) (place : ℕ) (part : StreamParts) → AreWhole parts live →
    slice_get parts place ≡ Some part → LiveSlotsGo (slots_in_turn part) [] live live_now → AreWhole (remove parts place) live_now
AreWhole-dropped parts live live_now place part whole at go =
    let number : StreamParts → ℕ = λ p. p.id.0 in
    let name : StreamParts → List ℕ = λ p. p.name in
    let inside = slice_get_within parts place part at in
    record {
      few = omega (arith, whole.few, length-remove parts place inside);
      numbers = rw (map-remove number parts place)
          (IsStrictlyIncreasing-remove (map number parts) place (omega (arith, inside, length-map parts number)) whole.numbers);
      names = rw (map-remove name parts place) (IsDistinct-remove same_name (map name parts) place whole.names);
      tiles = All-remove (λ (p : StreamParts). TileFrom 1 (entries_of p)) parts place whole.tiles;
      times = All-remove RiseToLast parts place whole.times;
      landmarks = All-remove (λ (p : StreamParts). AreKnown p.landmarks × EndByLast p) parts place whole.landmarks;
      slots = go (flat_map slots_held (remove parts place)) (slots-live parts live place part whole at);
    }

-- the others have other names
names-apart : (name : List ℕ) (parts : List StreamParts) (place : ℕ) (part : StreamParts) → IsDistinct same_name (map (λ (p : StreamParts). p.name) parts) →
    IsAtPlace name place parts part → AllByRecursion (λ (p : StreamParts). same_name name p.name ≡ false) (remove parts place)
names-apart name parts place part distinct is =
    let its : name ≡ part.name = (same_name-Decides name part.name).0 (find-passes (λ (p : StreamParts). same_name name p.name) parts part is.named) in
    rw its (others-differ same_name same_name-swap (λ (p : StreamParts). p.name) parts place part is.at distinct)

IsSound-dropped : (store : StoreState) (catalog : List (List ℕ × StreamId)) (name : List ℕ) (place : ℕ) (part : StreamParts) (now : RecordsState)
    (stopped : Bool) → IsSound store catalog → store.stopped ≡ false → IsAtPlace name place store.streams part →
    (stopped ≡ false → IsSettled now.journal × LiveSlotsGo (slots_in_turn part) [] store.records.live now.live) →
    IsSound (record { streams = remove store.streams place; records = now; stopped = stopped }) (without_name name catalog)
IsSound-dropped store catalog name place part now stopped sound runs is goes =
    let parts = store.streams in
    let whole = sound.whole runs in
    let number : StreamParts → ℕ = λ p. p.id.0 in
    let passes : List ℕ × StreamId → Bool = λ e. same_name name e.0 in
    let inside = slice_get_within parts place part is.at in
    let apart : AllByRecursion (λ (e : List ℕ × StreamId). passes e ≡ false) (remove (map entry_of parts) place) =
    rw map-remove at (map-all (λ (e : List ℕ × StreamId). passes e ≡ false) entry_of (remove parts place) (names-apart name parts place part whole.names is)) in
    let at : slice_get (map entry_of parts) place ≡ Some (entry_of part) = rw (slice_get-map entry_of parts place, is.at) refl in
    let named : passes (entry_of part) ≡ true = find-passes (λ (p : StreamParts). same_name name p.name) parts part is.named in
    record {
      listed = ap (without_name name) sound.listed ∙ filter-remove passes (map entry_of parts) place (entry_of part) at named apart
          ∙ sym (map-remove entry_of parts place);
      numbers = rw (map-remove number parts place)
          (IsStrictlyIncreasing-remove (map number parts) place (omega (arith, inside, length-map parts number)) sound.numbers);
      settled = λ run. (goes run).0;
      whole = λ run. AreWhole-dropped parts store.records.live now.live place part whole is.at (goes run).1;
    }

-- ---- the state without the stream

closed-remove : (streams : List Stream) (place : ℕ) → closed_state streams ≡ streams → closed_state (remove streams place) ≡ remove streams place
closed-remove streams place closed = map-remove closed_stream streams place ∙ ap (λ l. remove l place) closed

stepped-drop : (streams : List Stream) (name : List ℕ) → stepped streams (Drop name) ≡ without_named name streams
unfolding stepped_from
stepped-drop streams name = refl

eq-swap : (a b : ℕ) → (a == b) ≡ (b == a)
eq-swap a b = elim (cases_eq a b) [
  | inl same ↦ eq-eqb a b same ∙ sym (eq-eqb b a (sym same))
  | inr other ↦ ne_eqb a b other ∙ sym (ne_eqb b a (λ e. other (sym e)))
]

-- a stream of a state, and what is held of it
module _ (parts : List StreamParts) (streams : List Stream) (name : List ℕ) (place : ℕ) (part : StreamParts) (s : Stream) (state : IsState streams)
    (each : AllAgree parts streams) (is : IsAtPlace name place parts part) (here : slice_get streams place ≡ Some s) where
  inside : place < length streams
  inside = slice_get_within streams place s here

  its-name : name ≡ s.name
  its-name =
      (same_name-Decides name part.name).0 (find-passes (λ (p : StreamParts). same_name name p.name) parts part is.named)
      ∙ (Agrees-both parts streams place part s each is.at here).name

  same-stream : get_or streams place s ≡ s
  same-stream = get_or_from_slice_get streams place s s here

  without-name : without_named name streams ≡ remove streams place
  without-name =
      ap (λ n. without_named n streams) (its-name ∙ ap (λ (u : Stream). u.name) (sym same-stream)) ∙ without_named-place streams place s state inside

  without-number : without_numbered s.number streams ≡ remove streams place
  without-number =
      ap (λ n. without_numbered n streams) (ap (λ (u : Stream). u.number) (sym same-stream)) ∙ without_number-place streams place s state inside

  pub stepped-remove : stepped streams (Drop name) ≡ remove streams place
  stepped-remove = stepped-drop streams name ∙ without-name

  pub IsState-remove : IsState (remove streams place)
  IsState-remove = rw without-name at (IsState-without name streams state)

  -- none of the others' records has its number
  none-beside : list_any (is_of s.number) (records_beside (others_of place parts streams)) ≡ false
  none-beside =
      let apart : AllByRecursion (λ (u : Stream). (u.number == s.number) ≡ false) (remove streams place) =
      all_weaker (λ (u : Stream). (s.number == u.number) ≡ false) (λ (u : Stream). (u.number == s.number) ≡ false)
      (λ u other. eq-swap u.number s.number ∙ other) (remove streams place)
      (others-differ (λ a b. a == b) eq-swap (λ (u : Stream). u.number) streams place s here (numbers-differ (numbers_of streams) state.numbers)) in
      let pairs : AllByRecursion (λ (p : StreamParts × Stream). (p.1.number == s.number) ≡ false) (remove (zip parts streams) place) =
      rw (zip-remove parts streams place (length-AllAgree parts streams each)) at
      (all-zip (λ (u : Stream). (u.number == s.number) ≡ false) (remove parts place) (remove streams place) apart) in
      none-of-all s.number (remove (zip parts streams) place) pairs

  pub IsHeldBeside-at : (image : List ℕ) → HasRecords (flat_map records_held (zip parts streams)) image →
      IsHeldBeside (others_of place parts streams) part s streams image
  IsHeldBeside-at image has =
      record {
        agrees = Agrees-both parts streams place part s each is.at here;
        none = none-beside;
        found = has.found;
        map = has.map;
        occupied = IsPermutation-trans (records_held (part, s) ++ others_of place parts streams) (flat_map records_held (zip parts streams))
            (occupied has.found)
            (IsPermutation-parted records_held (zip parts streams) place (part, s) (slice_get-zip parts streams place part s is.at here)) has.occupied;
        carried = carried-AreHeld parts streams has.found (HasWholeSlots-StandsFor image has.found has.map)
            (record { each = each; records = has.occupied; state = state });
      }

  -- without it
  HasRecords-remove : (image : List ℕ) → HasRecords (others_of place parts streams) image →
      HasRecords (flat_map records_held (zip (remove parts place) (remove streams place))) image
  HasRecords-remove image has = rw (zip-remove parts streams place (length-AllAgree parts streams each)) has

  Recovers-remove : (image : List ℕ) → closed_state streams ≡ streams → HasRecords (others_of place parts streams) image →
      Recovers (stepped streams (Drop name)) image
  Recovers-remove image closed has = rw (closed-remove streams place closed ∙ sym stepped-remove) at
      (Recovers-held (remove parts place) (remove streams place) image (AllAgree-remove parts streams place each) IsState-remove
      (HasRecords-remove image has))

  -- what a crash leaves
  either-dropped : (image : List ℕ) → closed_state streams ≡ streams → RecoversWithOrWithout s.number streams image →
      RecoversToEither streams (Drop name) image
  either-dropped image closed (inl still) = inl (rw closed at still)
  either-dropped image closed (inr gone) = inr (rw (ap closed_state without-number ∙ closed-remove streams place closed ∙ sym stepped-remove) at gone)

-- ---- the store

-- What is known before the first transaction: this is the stream of the name, at its place, of a store that takes the event.
pub record IsDropping (store : StoreState) (catalog : List (List ℕ × StreamId)) (name : List ℕ) (place : ℕ) (part : StreamParts) (disk : DiskView) :
    Type 0 where
  pub takes : IsTaking (Drop name) store catalog disk
  pub stands : IsAtPlace name place store.streams part

pub dropping : (held : List HeldStream) {records : RecordsState} {stopped : Bool} {view : StoreState} {catalog : List (List ℕ × StreamId)} {name : List ℕ}
    {place : ℕ} {part : StreamParts} (disk : DiskView) → stored held records stopped ≡ view → OfContent disk (StoreIsKept view) →
    IsSound (stored held records stopped) catalog → view.stopped ≡ false → IsAtPlace name place (held_parts held) part →
    IsDropping (stored held records stopped) catalog name place part disk
dropping held {name = name} {part = part} disk same one_disk sound runs stands = record {
  takes = taking held disk same one_disk sound runs
      (sym (ap (λ (s : StoreState). refuses_held s.streams (Drop name)) same) ∙ refuses_held-dropped (held_parts held) name part stands.named);
  stands = stands;
}

module _ {store : StoreState} {catalog : List (List ℕ × StreamId)} {name : List ℕ} {place : ℕ} {part : StreamParts} {before : DiskView}
    (is : IsDropping store catalog name place part before) where
  -- the store without it
  abbrev pub without_part : RecordsState → Bool → StoreState
  without_part now stopped = record { streams = remove store.streams place; records = now; stopped = stopped }

  whole : AreWhole store.streams store.records.live
  whole = is.takes.sound.whole is.takes.runs

  pub live-slots : AreSomeLive (slots_in_turn part) store.records.live
  live-slots = AreSomeLive-turned store.streams store.records.live place part whole is.stands.at

  -- over every disk
  pub sound-undropped : (now : RecordsState) → IsSound (without_part now true) (without_name name catalog)
  sound-undropped now =
      IsSound-dropped store catalog name place part now true is.takes.sound is.takes.runs is.stands (λ run. let wrong : true ≡ false = run in cc)

  pub sound-dropped : (now : RecordsState) → IsSettled now.journal → LiveSlotsGo (slots_in_turn part) [] store.records.live now.live →
      IsSound (without_part now store.stopped) (without_name name catalog)
  sound-dropped now settled live =
      IsSound-dropped store catalog name place part now store.stopped is.takes.sound is.takes.runs is.stands (λ run. (settled, live))

  module _ (kept : StoreIsIn store (shown_by store.records before.told.content)) where
    pair : IsPair store.streams kept.streams place part
    pair = IsPair-at store.streams kept.streams place part kept.agree kept.state is.stands.at

    abbrev beside : List (ℕ × Option Record)
    beside = others_of place store.streams kept.streams

    held-beside : IsHeldBeside beside part pair.stream kept.streams (shown_by store.records before.told.content)
    held-beside =
        IsHeldBeside-at store.streams kept.streams name place part pair.stream kept.state kept.agree is.stands pair.here
        (shown_by store.records before.told.content) kept.held

    -- what the transactions do to the state
    steps : {T E : Type 0} (now : RecordsState) (after : Told) (result : Result T E) →
        StagesDrop part store.records now result before.told after → StepsState (Drop name) store.records now result before.told after
    steps now after result stages =
        StepsState-turns (Drop name) store.records now before.told after result kept.streams (IsHeldBeside beside part pair.stream kept.streams)
        (RecoversWithOrWithout pair.stream.number kept.streams) (HasRecords beside)
        (Recovers-StoreIsIn store (shown_by store.records before.told.content) kept) held-beside
        (λ image left.
        either-dropped store.streams kept.streams name place part pair.stream kept.state kept.agree is.stands pair.here image kept.closed left)
        (λ image has.
        Recovers-remove store.streams kept.streams name place part pair.stream kept.state kept.agree is.stands pair.here image kept.closed has)
        (stages beside pair.stream kept.streams)

    kept-after : (now : RecordsState) (after : List ℕ) → AreKept now after → HasRecords beside (shown_by now after) →
        StoreIsKept (without_part now store.stopped) after
    kept-after now after are has = record {
      records = are;
      shown = record {
        streams = remove kept.streams place;
        state = IsState-remove store.streams kept.streams name place part pair.stream kept.state kept.agree is.stands pair.here;
        agree = AllAgree-remove store.streams kept.streams place kept.agree;
        held = HasRecords-remove store.streams kept.streams name place part pair.stream kept.state kept.agree is.stands pair.here (shown_by now after) has;
        closed = closed-remove kept.streams place kept.closed;
      };
    }

  said-dropped : (let zeros : Ack = record { n = 0; k = 0 } in zeros) ≡ said_of_held (part_named name (remove store.streams place))
  said-dropped =
      let none = find-none (λ (p : StreamParts). same_name name p.name) (remove store.streams place)
      (names-apart name store.streams place part whole.names is.stands) in
      rw none refl

  -- the event is applied
  pub applies-dropped : {used most : ℕ} (now : RecordsState) (after : DiskView) (done : Unit {0}) → now.journal.extent ≡ store.records.journal.extent →
      Step fine before after
      (StagesAtCost {T = Unit {0}} {E = Failed} (StagesDrop {T = Unit {0}} {E = Failed} part store.records now (Ok done)) used most store.records now
      (Ok done)) →
      Applies (Drop name) store (without_part now store.stopped) before after (Ok (record { n = 0; k = 0 }))
  applies-dropped now after done extent step =
      applies-done is.takes (remove store.streams place) now after (record { n = 0; k = 0 }) done step
      (λ kept made. (
        steps kept now after.told (Ok done) made,
        λ are. kept-after kept now after.told.content are ((made (beside kept) (pair kept).stream kept.streams).content (held-beside kept)),
      ))
      (omega (arith, extent)) (λ none_left. refl) said-dropped (λ plain. let wrong : false ≡ true = plain in absurd (cc))

  -- the disk failed
  pub applies-undropped : {used most : ℕ} (now : RecordsState) (after : DiskView) (e : Failed) →
      Step failed before after
      (StagesAtCost {T = Unit {0}} {E = Failed} (StagesDrop {T = Unit {0}} {E = Failed} part store.records now (Err e)) used most store.records now (Err e)) →
      Applies (Drop name) store (without_part now true) before after (Err Disk)
  applies-undropped now after e step =
      applies-failed is.takes (remove store.streams place) now after fault.Disk (Err e) step
      (λ kept made. (steps kept now after.told (Err e) made, tt)) tt
