-- Rows that pin what the calls of records leave, field by field.
use Rattle.std.proofs.Common.{◌≡◌, ap, refl, ℕ, ◌+◌, ◌*◌, ◌<◌, ◌≤◌, ◌⊎◌, inl, inr, Bool, true, not, lit≤, List, [], ◌∷◌, length, map, take, drop, Result, Ok}
use Rattle.std.specs.List.{range_with_len}
use Rattle.ss_outside.specs.Crash.{OnlyReads}
use Rattle.ss_outside.specs.Disk.{NothingPending, Told}
use Rattle.ss_outside.specs.declared.source.Failed.{Failed}
use Rattle.ss_journal.specs.Calls.{KeepsMap, KeepsShown, MakesDurable}
use Rattle.ss_journal.specs.Groups.{entry_count, group_bytes}
use Rattle.ss_journal.specs.Kept.{IsKept, IsRunning, IsSettled, shown, with_entries}
use Rattle.ss_journal.specs.Redo.{SlotMap, StandsFor, changed}
use Rattle.ss_journal.specs.declared.format.TheConstants.{MOST_SLOTS}
use Rattle.ss_journal.specs.declared.put.Put.{Put}
use Rattle.ss_records.specs.Calls.{MakesRoomFor, ReadsRecord, SealsRecords, SettlesRecords, StagesPuts}
use Rattle.ss_records.specs.Kept.{AreAtRest, AreKept, AreLiveOver, AreSound, RecordsState, shown_by, uncached}
use Rattle.ss_records.specs.Live.{AreLiveIn, are_zeros, is_live}
use Rattle.ss_records.specs.Pages.{ArePages, IsPage, Recalls}

module _ (records : RecordsState) (old new : Told) where
  SettlesRecords-Ok : SettlesRecords records (Ok tt) old new → AreKept records new.content
  SettlesRecords-Ok settles = settles.kept

  SettlesRecords-keeps_map : (result : Result Unit Failed) → SettlesRecords records result old new → KeepsMap old new result
  SettlesRecords-keeps_map result settles = settles.keeps_map

  SettlesRecords-makes_durable : (result : Result Unit Failed) → SettlesRecords records result old new → MakesDurable old new result
  SettlesRecords-makes_durable result settles = settles.makes_durable

-- a transaction is staged, over whichever content
module _ (puts : List Put) (was is : RecordsState) (content : List ℕ) (stages : StagesPuts puts was is content) (kept : AreKept was content) where
  StagesPuts-kept : AreKept is content
  StagesPuts-kept = stages.kept kept

  StagesPuts-map : (found : SlotMap) → StandsFor (shown was.journal content) found → StandsFor (shown is.journal content) (changed found puts)
  StagesPuts-map found stands = stages.map kept found stands

module _ (was is : RecordsState) (old new : Told) where
  MakesRoomFor-Ok : MakesRoomFor was is (Ok tt) old new → AreKept is new.content
  MakesRoomFor-Ok makes = makes.kept

  MakesRoomFor-keeps_shown : (result : Result Unit Failed) → MakesRoomFor was is result old new → KeepsShown was.journal is.journal old new result
  MakesRoomFor-keeps_shown result makes = makes.keeps_shown

  SealsRecords-Ok : SealsRecords was is (Ok tt) old new → AreKept is new.content
  SealsRecords-Ok seals = seals.kept

  SealsRecords-keeps_shown : (result : Result Unit Failed) → SealsRecords was is result old new → KeepsShown was.journal is.journal old new result
  SealsRecords-keeps_shown result seals = seals.keeps_shown

  -- where a put is staged nothing is pending after it
  SealsRecords-durable : (put : Put) (puts : List Put) → was.journal.staged ≡ put ∷ puts → SealsRecords was is (Ok tt) old new → NothingPending new
  SealsRecords-durable put puts staged seals = rw staged at seals.durable

  ReadsRecord-Ok : (slot : ℕ) (bytes : List ℕ) (found : SlotMap) → ReadsRecord was is slot (Ok bytes) old new
      → StandsFor (shown was.journal old.content) found → bytes ≡ found.bytes slot
  ReadsRecord-Ok slot bytes found read stands = read.bytes found stands

  ReadsRecord-kept : (slot : ℕ) (bytes : List ℕ) → ReadsRecord was is slot (Ok bytes) old new → AreKept is new.content
  ReadsRecord-kept slot bytes read = read.kept

  ReadsRecord-reads : (slot : ℕ) (result : Result (List ℕ) Failed) → ReadsRecord was is slot result old new → OnlyReads old new
  ReadsRecord-reads slot result read = read.reads

module _ (records : RecordsState) where
  AreKept-journal : (content : List ℕ) → AreKept records content → IsKept records.journal content
  AreKept-journal content kept = kept.journal

  AreKept-free : (content : List ℕ) (found : SlotMap) → AreKept records content → StandsFor (shown records.journal content) found
      → AreLiveIn records.live found.bytes
  AreKept-free content found kept is = kept.free found is

  AreKept-cached : (content : List ℕ) (found : SlotMap) → AreKept records content → StandsFor (shown records.journal content) found
      → ArePages records.cached found.bytes
  AreKept-cached content found kept is = kept.cached found is

  -- records that were just made have no page cached
  uncached-is : uncached records.journal records.live ≡ record { journal = records.journal; live = records.live; cached = [] }
  uncached-is = refl

  -- a slot below the extent is live as it is in the map that is shown
  AreLiveOver-slot : (content : List ℕ) (found : SlotMap) (slot : ℕ) → AreLiveOver records.journal records.live content
      → StandsFor (shown records.journal content) found → slot < records.journal.extent
      → is_live records.live slot ≡ not (are_zeros (found.bytes slot))
  AreLiveOver-slot content found slot over stands lt = over found stands slot lt

  -- at rest nothing is staged, and every slot that is shown is that of the content
  AreAtRest-shown : AreAtRest records → IsSettled records.journal × ((content : List ℕ) → shown_by records content ≡ content)
  AreAtRest-shown rest = (
    rest.0,
    λ content. ap (λ (staged : List Put). with_entries records.journal.sealed
        (group_bytes records.journal.kind records.journal.sealed (entry_count (length staged)) staged) content) rest.1,
  )

  AreSound-slots : AreSound records → length records.live ≡ MOST_SLOTS
  AreSound-slots sound = sound.slots

  AreSound-below : AreSound records → IsRunning records.journal → (slot : ℕ) → is_live records.live slot ≡ true → slot < records.journal.extent
  AreSound-below sound = sound.below

  -- 64 pages are cached at most
  AreSound-few : AreSound records → length records.cached ≤ 64
  AreSound-few sound = sound.few

-- a first page and the last one that a file can have, whose last slot is the last of the map
ArePages-first : (bytes : List ℕ) (map : ℕ → List ℕ) → ArePages ((0, bytes) ∷ []) map → take 128 bytes ≡ map 0
ArePages-first bytes map are = are 0 bytes (0, lit≤ tt, refl) (lit≤ tt) 0 (lit≤ tt)

ArePages-last : (bytes : List ℕ) (map : ℕ → List ℕ) → ArePages ((32767, bytes) ∷ []) map → take 128 (drop 3968 bytes) ≡ map 1048575
ArePages-last bytes map are = are 32767 bytes (0, lit≤ tt, refl) (lit≤ tt) 31 (lit≤ tt)

-- a page is that of a map if each of its slots is
IsPage-slots : (map : ℕ → List ℕ) (bytes : List ℕ) → ((k : ℕ) → k < 32 → take 128 (drop (128 * k) bytes) ≡ map (64 + k))
    → IsPage map 2 bytes
IsPage-slots map bytes each = each

-- the second of three pages is read: it comes first, and the others stay in their order
module _ (first second third now : List ℕ) where
  Recalls-second : Recalls 63 ((5, first) ∷ (1, second) ∷ (9, third) ∷ []) ((1, second) ∷ (5, first) ∷ (9, third) ∷ [])
  Recalls-second = inl refl

  -- and nothing else may be left
  Recalls-only : (left : List (ℕ × List ℕ)) → Recalls 63 ((5, first) ∷ (1, second) ∷ (9, third) ∷ []) left
      → left ≡ (1, second) ∷ (5, first) ∷ (9, third) ∷ []
  Recalls-only left (inl is) = is
  Recalls-only left (inr put) = absurd (cc)

  -- another page comes before them, or all stays
  Recalls-other : Recalls 64 ((5, first) ∷ (1, second) ∷ []) ((2, now) ∷ (5, first) ∷ (1, second) ∷ [])
  Recalls-other = inr (now, refl, refl)

  Recalls-starved : Recalls 64 ((5, first) ∷ (1, second) ∷ []) ((5, first) ∷ (1, second) ∷ [])
  Recalls-starved = inl refl

  Recalls-new : (left : List (ℕ × List ℕ)) → Recalls 64 ((5, first) ∷ (1, second) ∷ []) left
      → (left ≡ (5, first) ∷ (1, second) ∷ []) ⊎ ((bytes : List ℕ) × (left ≡ (2, bytes) ∷ (5, first) ∷ (1, second) ∷ []))
  Recalls-new left (inl is) = inl is
  Recalls-new left (inr put) = inr (put.0, put.2)

-- of 64 pages the last goes
Recalls-most : (now : List ℕ) → Recalls 64 (map (λ n. (n + 5, [])) (range_with_len 0 64)) ((2, now) ∷ map (λ n. (n + 5, [])) (range_with_len 0 63))
Recalls-most now = inr (now, refl, refl)

-- the last slot that a file can have is live where it isn't zeros
AreLiveIn-last : (live : List Bool) (map : ℕ → List ℕ) → AreLiveIn live map → is_live live 1048575 ≡ not (are_zeros (map 1048575))
AreLiveIn-last live map are = are 1048575 (lit≤ tt)
