-- Rows that pin what the calls of a journal leave, field by field.
use Rattle.ss_journal.proofs.Common.{◌≡◌, ◌⊎◌, ◌+◌, ◌*◌, ◌<◌, ◌≤◌, ℕ, List, [], ◌∷◌, length, Result, Ok, Err, IsTrue, IsFalse, Bool, true, not, ◌&&◌}
use Rattle.ss_journal.proofs.Common.{◌||◌, refl, LeavesOnly, OnlyReads, NothingPending, SyncsAtMost, Told, Failed, JournalError, NotAStore, BadEntry, Settled}
use Rattle.ss_journal.proofs.Common.{Unborn, Put, HasStaged, KeepsMap, KeepsShown, MakesDurable, MakesChecked, MakesRoom, ReadsPage, ReadsSlot}
use Rattle.ss_journal.proofs.Common.{Seals, Settles, Stages, entries_after, slot_in_page, has_no_kind, is_born, is_plain, is_unborn, kind_of, magic, slots_in}
use Rattle.ss_journal.proofs.Common.{IsClosed, HasRoomFor, IsBounded, IsInPhase, IsKept, IsSealed, IsSettled, IsShown, JournalState, shown, Plain, Checked}
use Rattle.ss_journal.proofs.Common.{entry_count, DoAs, newest_after, FillSlots, extent_after, is_put, slots_fit, SameMap, SlotMap, StandsFor, bad_entry}
use Rattle.ss_journal.proofs.Common.{changed, entries_in_use, not_a_store, puts_in_use, redo, stands, zeros, SameRest, All, slice_index}
use Rattle.std.proofs.Common.{lit≤}
use Rattle.ss_journal.specs.Calls.{HasMadeRoom, HasSealed, HasSettled, Opens, SyncsForRoom}
use Rattle.std.specs.Prelude.{codes}

-- the bytes that stand after the birth gate
magic-plain : magic Plain ≡ codes "SSTORE01"
magic-plain = refl

magic-checked : magic Checked ≡ codes "SSTORE02"
magic-checked = refl

module _ (old new : Told) (found : SlotMap) where
  KeepsMap-Ok : KeepsMap {T = Unit {0}} {E = Failed} old new (Ok tt) → StandsFor old.content found → StandsFor new.content found
  KeepsMap-Ok keeps is = keeps.map found is

  KeepsMap-any_moment : (result : Result Unit Failed) → KeepsMap old new result → NothingPending old → StandsFor old.content found →
      LeavesOnly old new (λ image. StandsFor image found)
  KeepsMap-any_moment result keeps nothing is = keeps.any_moment nothing found is

  KeepsMap-durable : KeepsMap {T = Unit {0}} {E = Failed} old new (Ok tt) → NothingPending old → NothingPending new
  KeepsMap-durable keeps = keeps.durable

  MakesDurable-Ok : MakesDurable {T = Unit {0}} {E = Failed} old new (Ok tt) → NothingPending new
  MakesDurable-Ok makes = makes.durable

  MakesDurable-any_moment : (result : Result Unit Failed) → MakesDurable old new result → IsTrue (is_born old.content) → StandsFor old.content found →
      LeavesOnly old new (λ image. old.may_leave image ⊎ StandsFor image found)
  MakesDurable-any_moment result makes born is = makes.any_moment born found is

  module _ (journal : JournalState) where
    ReadsSlot-Ok : (slot : ℕ) (bytes : List ℕ) → ReadsSlot journal slot (Ok bytes) old new → StandsFor (shown journal old.content) found →
        bytes ≡ found.bytes slot
    ReadsSlot-Ok slot bytes read is = read.bytes found is

    ReadsSlot-reads : (slot : ℕ) (result : Result (List ℕ) Failed) → ReadsSlot journal slot result old new → OnlyReads old new
    ReadsSlot-reads slot result read = read.reads

    ReadsPage-Ok : (page k : ℕ) (bytes : List ℕ) → ReadsPage journal page (Ok bytes) old new → StandsFor (shown journal old.content) found → k < 32 →
        slot_in_page bytes k ≡ found.bytes (32 * page + k)
    ReadsPage-Ok page k bytes read is lt = read.bytes found is k lt

    -- the last slot of the last page is the last slot
    ReadsPage-last : (bytes : List ℕ) → ReadsPage journal 32767 (Ok bytes) old new → StandsFor (shown journal old.content) found →
        slot_in_page bytes 31 ≡ found.bytes 1048575
    ReadsPage-last bytes read is = read.bytes found is 31 (lit≤ tt)

    ReadsPage-reads : (page : ℕ) (result : Result (List ℕ) Failed) → ReadsPage journal page result old new → OnlyReads old new
    ReadsPage-reads page result read = read.reads

  module _ (was then : JournalState) where
    KeepsShown-Ok : KeepsShown {T = Unit {0}} {E = Failed} was then old new (Ok tt) → StandsFor (shown was old.content) found →
        StandsFor (shown then new.content) found
    KeepsShown-Ok keeps is = keeps.map found is

    KeepsShown-any_moment : (before : SlotMap) (result : Result Unit Failed) → KeepsShown was then old new result → NothingPending old →
        StandsFor old.content before → StandsFor (shown was old.content) found → LeavesOnly old new (λ image. StandsFor image before ⊎ StandsFor image found)
    KeepsShown-any_moment before result keeps nothing stood is = keeps.any_moment nothing before found stood is

    KeepsShown-durable : KeepsShown {T = Unit {0}} {E = Failed} was then old new (Ok tt) → NothingPending old → NothingPending new
    KeepsShown-durable keeps = keeps.durable

    Stages-map : (puts : List Put) (content : List ℕ) → Stages puts was then content → IsKept was content → StandsFor (shown was content) found →
        StandsFor (shown then content) (changed found puts)
    Stages-map puts content stages kept is = stages.map kept found is

module _ (old new : Told) (journal : JournalState) where
  Opens-reads : (result : Result JournalState JournalError) → Opens result old new → OnlyReads old new
  Opens-reads result opens = opens.reads

  Opens-Ok : Opens (Ok journal) old new → IsKept journal old.content
  Opens-Ok opens = opens.opens

  Opens-NotAStore : Opens (Err NotAStore) old new → redo old.content ≡ not_a_store
  Opens-NotAStore opens = opens.opens

  Opens-BadEntry : (n : ℕ) → Opens (Err (BadEntry n)) old new → redo old.content ≡ bad_entry n
  Opens-BadEntry n opens = opens.opens

  Settles-kept : Settles journal (Ok tt) old new → IsKept journal new.content
  Settles-kept settles = settles.kept

  Settles-keeps_map : (result : Result Unit Failed) → Settles journal result old new → KeepsMap old new result
  Settles-keeps_map result settles = settles.keeps_map

  Settles-makes_durable : (result : Result Unit Failed) → Settles journal result old new → MakesDurable old new result
  Settles-makes_durable result settles = settles.makes_durable

  Settles-rest : Settles journal (Ok tt) old new → IsTrue (is_unborn old.content) → SameRest old.content new.content
  Settles-rest settles = settles.rest

-- a journal with something staged
abbrev one_staged : JournalState
one_staged = record { phase = Settled; extent = 1; in_use = 1; waiting = []; sealed = 0; staged = record { slot = 0; bytes = zeros } ∷ []; kind = Plain }

module _ (old new : Told) (was then : JournalState) where
  MakesRoom-kept : MakesRoom was then (Ok tt) old new → IsKept then new.content
  MakesRoom-kept room = room.kept

  MakesRoom-keeps_shown : (result : Result Unit Failed) → MakesRoom was then result old new → KeepsShown was then old new result
  MakesRoom-keeps_shown result room = room.keeps_shown

  SyncsForRoom-most : SyncsForRoom was old new → SyncsAtMost 4 old new
  SyncsForRoom-most room = room.most

  SyncsForRoom-sealed : SyncsForRoom was old new → IsSealed was → SyncsAtMost 2 old new
  SyncsForRoom-sealed room = room.sealed

  Seals-kept : Seals was then (Ok tt) old new → IsKept then new.content
  Seals-kept seals = seals.kept

  Seals-keeps_shown : (result : Result Unit Failed) → Seals was then result old new → KeepsShown was then old new result
  Seals-keeps_shown result seals = seals.keeps_shown

  -- where something was staged nothing is pending after
  Seals-durable : Seals one_staged then (Ok tt) old new → NothingPending new
  Seals-durable seals = seals.durable

  Stages-kept : (puts : List Put) (content : List ℕ) → Stages puts was then content → IsKept was content → IsKept then content
  Stages-kept puts content stages = stages.kept

module _ (old new : JournalState) where
  HasSettled-kind : HasSettled old new → new.kind ≡ old.kind
  HasSettled-kind has = has.kind

  HasSettled-settled : HasSettled old new → IsSettled new
  HasSettled-settled has = has.settled

  HasSettled-extent : HasSettled old new → new.extent ≡ old.extent
  HasSettled-extent has = has.extent

  HasSettled-in_use : HasSettled old new → new.in_use ≡ 0
  HasSettled-in_use has = has.in_use

  HasSettled-sealed : HasSettled old new → IsSealed new
  HasSettled-sealed has = has.sealed

  HasMadeRoom-kind : HasMadeRoom old new → new.kind ≡ old.kind
  HasMadeRoom-kind has = has.kind

  HasMadeRoom-settled : HasMadeRoom old new → IsSettled new
  HasMadeRoom-settled has = has.settled

  HasMadeRoom-extent : HasMadeRoom old new → new.extent ≡ old.extent
  HasMadeRoom-extent has = has.extent

  HasMadeRoom-room : HasMadeRoom old new → new.in_use < 64
  HasMadeRoom-room has = has.room

  HasMadeRoom-in_use : HasMadeRoom old new → new.in_use + 1 ≡ entries_after old.in_use
  HasMadeRoom-in_use has = has.in_use

  HasMadeRoom-sealed : HasMadeRoom old new → IsSealed old → IsSealed new
  HasMadeRoom-sealed has = has.sealed

  HasSealed-kind : HasSealed old new → new.kind ≡ old.kind
  HasSealed-kind has = has.kind

  HasSealed-settled : HasSealed old new → IsSettled new
  HasSealed-settled has = has.settled

  HasSealed-extent : HasSealed old new → new.extent ≡ old.extent
  HasSealed-extent has = has.extent

  HasSealed-in_use : HasSealed old new → new.in_use ≡ old.in_use
  HasSealed-in_use has = has.in_use

  HasSealed-waiting : HasSealed old new → new.waiting ≡ old.waiting
  HasSealed-waiting has = has.waiting

  HasSealed-sealed : HasSealed old new → IsSealed new
  HasSealed-sealed has = has.sealed

  HasStaged-kind : (puts : List Put) → HasStaged puts old new → new.kind ≡ old.kind
  HasStaged-kind puts has = has.kind

  HasStaged-settled : (puts : List Put) → HasStaged puts old new → IsSettled new
  HasStaged-settled puts has = has.settled

  HasStaged-extent : (puts : List Put) → HasStaged puts old new → new.extent ≡ extent_after puts old.extent
  HasStaged-extent puts has = has.extent

  HasStaged-staged : (puts : List Put) → HasStaged puts old new → new.staged ≡ newest_after puts old.staged
  HasStaged-staged puts has = has.staged

  HasStaged-number : (puts : List Put) → HasStaged puts old new → new.in_use ≡ old.sealed + entry_count (length new.staged)
  HasStaged-number puts has = has.number

  HasStaged-in_use : (puts : List Put) → HasStaged puts old new → new.in_use ≤ old.in_use + 1
  HasStaged-in_use puts has = has.in_use

  HasStaged-first : (puts : List Put) → HasStaged puts old new → IsSealed old → new.in_use ≡ old.in_use + 1
  HasStaged-first puts has = has.first

  HasStaged-some : (puts : List Put) → HasStaged puts old new → 0 < length new.staged
  HasStaged-some puts has = has.some

-- with one entry in the file and puts for the slots 1, 2 and 3 staged, two are in use: two puts more for the slots 2 and 4 take none, and
-- for the slots 4 and 5 one
abbrev put_into : ℕ → Put
put_into slot = record { slot = slot; bytes = zeros }

abbrev three_staged : JournalState
three_staged = record {
  phase = Settled;
  extent = 9;
  in_use = 2;
  sealed = 1;
  kind = Plain;
  waiting = put_into 1 ∷ put_into 2 ∷ put_into 3 ∷ [];
  staged = put_into 1 ∷ put_into 2 ∷ put_into 3 ∷ [];
}

module _ (then : JournalState) where
  HasStaged-none_more : HasStaged (put_into 2 ∷ put_into 4 ∷ []) three_staged then → then.in_use ≡ 2
  HasStaged-none_more has = rw (has.number, has.staged)

  HasStaged-one_more : HasStaged (put_into 4 ∷ put_into 5 ∷ []) three_staged then → then.in_use ≡ 3
  HasStaged-one_more has = rw (has.number, has.staged)

-- what is true of each journal
module _ (journal : JournalState) (is : IsBounded journal) where
  IsBounded-extent : journal.extent ≤ 1048576
  IsBounded-extent = is.extent

  IsBounded-waiting : All (λ put. put.slot < journal.extent) journal.waiting
  IsBounded-waiting = is.waiting

  IsBounded-unborn : journal.phase ≡ Unborn → journal.waiting ≡ []
  IsBounded-unborn = is.unborn

  IsBounded-in_use : journal.in_use ≤ 64
  IsBounded-in_use = is.in_use

  IsBounded-few : length journal.waiting ≤ 4 * journal.sealed + length journal.staged
  IsBounded-few = is.few

  IsBounded-held : (slot : ℕ) → IsTrue (is_put journal.staged slot) → IsTrue (is_put journal.waiting slot)
  IsBounded-held = is.held

  IsBounded-number : journal.in_use ≡ journal.sealed + entry_count (length journal.staged)
  IsBounded-number = is.number

  IsBounded-whole : FillSlots journal.staged
  IsBounded-whole = is.whole

-- what a journal shows is as it keeps it, and where something is staged there is room for it before its entries
module _ (journal : JournalState) (content : List ℕ) where
  IsKept-shown : IsKept journal content → IsShown journal (shown journal content)
  IsKept-shown kept = kept.shown

  IsKept-before : IsKept one_staged content → HasRoomFor 0 (record { slot = 0; bytes = zeros } ∷ []) content
  IsKept-before kept = kept.before

  IsShown-phase : IsShown journal content → IsInPhase journal.phase journal.in_use content
  IsShown-phase is = is.phase

  IsShown-number : IsShown journal content → journal.in_use ≡ length (entries_in_use content)
  IsShown-number is = is.number

  IsShown-waiting : IsShown journal content → DoAs (puts_in_use content) (slots_in (length content)) journal.waiting
  IsShown-waiting is = is.waiting

  IsShown-map : (is : IsShown journal content) → (redo content ≡ stands is.found) × (is.found.extent ≡ journal.extent)
  IsShown-map is = (is.map, is.extent)

module _ (n : ℕ) (puts : List Put) (content : List ℕ) (room : HasRoomFor n puts content) where
  HasRoomFor-born : IsTrue (is_born content)
  HasRoomFor-born = room.ends.born

  HasRoomFor-closed : IsClosed n content
  HasRoomFor-closed = room.ends.closed

  HasRoomFor-number : n ≡ length (entries_in_use content)
  HasRoomFor-number = room.ends.number

  HasRoomFor-fit : (redo content ≡ stands room.ends.found) × IsTrue (slots_fit puts room.ends.found.extent)
  HasRoomFor-fit = (room.ends.map, room.fit)

-- the last slot that a file can have is part of a map, and the first byte after it is part of the rest
SameMap-last : (first second : SlotMap) → SameMap first second → first.bytes 1048575 ≡ second.bytes 1048575
SameMap-last first second same = same.bytes 1048575 (lit≤ tt)

SameMap-extent : (first second : SlotMap) → SameMap first second → first.extent ≡ second.extent
SameMap-extent first second same = same.extent

SameRest-first : (old new : List ℕ) → SameRest old new → slice_index new 134254592 ≡ slice_index old 134254592
SameRest-first old new same = same 134254592 (lit≤ tt)

module _ (old new : Told) where
  MakesChecked-keeps_map : (result : Result Bool Failed) → MakesChecked result old new → KeepsMap old new result
  MakesChecked-keeps_map result makes = makes.keeps_map

  MakesChecked-is : (is : Bool) → MakesChecked (Ok is) old new → is ≡ not (is_plain old.content)
  MakesChecked-is is makes = makes.is

  MakesChecked-checked : MakesChecked (Ok true) old new → IsTrue (is_born new.content || is_unborn new.content) → kind_of new.content ≡ Checked
  MakesChecked-checked makes store = makes.checked refl store

  MakesChecked-unwritten : (result : Result Bool Failed) → MakesChecked result old new → IsFalse (is_unborn old.content && has_no_kind old.content)
      → OnlyReads old new
  MakesChecked-unwritten result makes none = makes.unwritten none

  MakesChecked-rest : (is : Bool) → MakesChecked (Ok is) old new → SameRest old.content new.content
  MakesChecked-rest is makes = makes.rest

-- the kind of a journal is that of the content that it shows
IsShown-kind : (journal : JournalState) (content : List ℕ) → IsShown journal content → journal.kind ≡ kind_of content
IsShown-kind journal content is = is.kind
