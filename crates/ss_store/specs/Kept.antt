-- A store: what it holds in memory, and what it says of its disk.
use Rattle.std.specs.Prelude.{◌≡◌, ℕ, Bool, true, false, ◌==◌, List, length, map, find, flat_map, zip, Option}
use Rattle.std.specs.Prelude.{Some, None, ⊤}
use Rattle.std.specs.List.{AllZip}
use Rattle.std.specs.Option.{option_map, option_map_or}
use Rattle.std.specs.List.Sorted.{IsStrictlyIncreasing}
use Rattle.ss_catalog.specs.Names.{same_name}
use Rattle.ss_catalog.specs.Events.{event_name}
use Rattle.ss_catalog.specs.declared.event.Event.{Event}
use Rattle.ss_catalog.specs.declared.event.Event.TheVariants.{Create, Value, Open, Close, Drop}
use Rattle.ss_catalog.specs.declared.refusal.Refusal.{Refusal}
use Rattle.ss_catalog.specs.declared.stream_id.StreamId.{StreamId}
use Rattle.ss_landmarks.specs.Landmark.{all_values}
use Rattle.ss_targets.specs.Targets.{params_of}
use Rattle.ss_journal.specs.Kept.{IsSettled}
use Rattle.ss_records.specs.Kept.{AreKept, RecordsState, shown_by}
use Rattle.ss_model.specs.ClosedState.{closed_state}
use Rattle.ss_model.specs.Marks.{has_open}
use Rattle.ss_model.specs.Outline.{Outline}
use Rattle.ss_model.specs.Refusals.{first_that_applies, refusals}
use Rattle.ss_model.specs.Standing.{IsState}
use Rattle.ss_model.specs.State.{Stream}
use Rattle.ss_model.specs.declared.types.StreamRow.{StreamRow}
use Rattle.ss_parts.specs.Held.{AllAgree, AreWhole, Agrees, entries_of, records_held, slots_held}
use Rattle.ss_parts.specs.declared.parts.StreamParts.{StreamParts}
use Rattle.ss_parts.specs.Slots.{HasRecords}
use Rattle.ss_stream.specs.Held.{outline_held, without_spare, KeepsSpare, values_held}

-- a store: its streams as it holds them, in order of creation, the records, and whether a call has failed
pub record StoreState : Type 0 where
  pub streams : List StreamParts
  pub records : RecordsState
  pub stopped : Bool

-- a stream's entry in the catalog
abbrev pub entry_of : StreamParts → List ℕ × StreamId
entry_of part = (part.name, part.id)

-- What is true of a store over every disk, whatever it tells.
pub record IsSound (store : StoreState) (catalog : List (List ℕ × StreamId)) : Type 0 where
  pub listed : catalog ≡ map entry_of store.streams
  pub numbers : IsStrictlyIncreasing (map (λ (part : StreamParts). part.id.0) store.streams)
  pub settled : store.stopped ≡ false → IsSettled store.records.journal
  pub whole : store.stopped ≡ false → AreWhole store.streams store.records.live

-- An image has the records of these streams, each in the slot where the store holds it, and no merge is due.
pub record StoreIsIn (store : StoreState) (image : List ℕ) : Type 0 where
  pub streams : List Stream
  pub state : IsState streams
  pub agree : AllAgree store.streams streams
  pub held : HasRecords (flat_map records_held (zip store.streams streams)) image
  pub closed : closed_state streams ≡ streams

-- One disk: what is said of records, and what these show has the store's records.
pub record StoreIsKept (store : StoreState) (content : List ℕ) : Type 0 where
  pub records : AreKept store.records content
  pub shown : StoreIsIn store (shown_by store.records content)

-- the stream of a name and of a number, as it is held
abbrev pub part_named : List ℕ → List StreamParts → Option StreamParts
part_named name parts = find (λ part. same_name name part.name) parts

abbrev pub part_numbered : ℕ → List StreamParts → Option StreamParts
part_numbered number parts = find (λ part. number == part.id.0) parts

-- what is held of a stream, if it stands, agrees with it
abbrev pub SomeAgree : Option StreamParts → Option Stream → Type 0
SomeAgree None None = ⊤
SomeAgree None (Some s) = ⊥
SomeAgree (Some part) None = ⊥
SomeAgree (Some part) (Some s) = Agrees part s

-- stores are the same but for the room to spare, which never falls
pub record SameButSpare (old new : StoreState) : Type 0 where
  pub streams : map without_spare new.streams ≡ map without_spare old.streams
  pub spares : AllZip KeepsSpare old.streams new.streams
  pub records : new.records ≡ old.records
  pub stopped : new.stopped ≡ old.stopped

-- the numbers of streams as they are held
abbrev pub numbers_held : List StreamParts → List ℕ
numbers_held parts = map (λ (part : StreamParts). part.id.0) parts

abbrev pub outline_held_named : List ℕ → List StreamParts → Option Outline
outline_held_named name parts = option_map outline_held (part_named name parts)

-- how many records are held
abbrev pub live_held : List StreamParts → ℕ
live_held parts = length (flat_map slots_held parts)

-- whether the stream of a name is held and has this
abbrev pub of_part : List ℕ → List StreamParts → (StreamParts → Bool) → Bool
of_part name parts test = option_map_or test (part_named name parts) false

-- whether an event is one of landmarks: it opens or closes one, or is a value while one is open
abbrev pub is_of_landmark : List StreamParts → Event → Bool
is_of_landmark parts (Create name params) = false
is_of_landmark parts (Value name t v) = of_part name parts (λ part. has_open part.landmarks.landmarks)
is_of_landmark parts (Open name t) = true
is_of_landmark parts (Close name t) = true
is_of_landmark parts (Drop name) = false

-- why an event is refused by what is held of the streams, where it is
unfoldable pub refuses_held : List StreamParts → Event → Option Refusal
refuses_held parts event = first_that_applies (refusals (outline_held_named (event_name event) parts) (numbers_held parts) (live_held parts) event)

-- a stream as it is listed, by what is held of it
abbrev pub row_of_held : StreamParts → StreamRow
row_of_held part = record {
  id = part.id;
  name = part.name;
  params = params_of part.target;
  n = values_held (entries_of part);
  k = length part.line.entries;
  landmarks = length part.landmarks.landmarks;
  values = length (all_values part.landmarks.landmarks);
}
