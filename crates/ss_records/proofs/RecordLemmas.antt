-- Records over their journal.
use Rattle.std.proofs.Common.{◌≡◌, ◌∙◌, sym, ap, refl, ℕ, ◌/◌, ◌%◌, ◌<◌, ◌≤◌, ◌^◌, ◌⊎◌}
use Rattle.std.proofs.Common.{Bool, true, nat_eq, not, List, All, length, arith, inl, inr, Some, Result, Ok, Err, OnOk, IsTrue}
use Rattle.std.specs.Prelude.{IsErr}
use Rattle.lru.specs.LruCache.{lru_cache, promoted, put_entries}
use Rattle.std.proofs.lemmas.Bool.{cases_lt, false_from_ne_true}
use Rattle.ss_outside.proofs.CrashLemmas.{reads-none}
use Rattle.ss_outside.specs.Disk.{Told}
use Rattle.ss_journal.specs.Calls.{slot_in_page, HasSettled, MakesRoom, ReadsPage, ReadsSlot, Seals, Settles, Stages}
use Rattle.ss_journal.specs.Kept.{JournalState, IsKept, IsRunning, IsSealed, IsSettled, shown}
use Rattle.ss_journal.specs.Puts.{slots_fit, extent_after, with_puts, IsTxn}
use Rattle.ss_journal.specs.Redo.{SlotMap, StandsFor, changed}
use Rattle.ss_journal.specs.declared.put.Put.{Put}
use Rattle.ss_outside.specs.declared.source.Failed.{Failed}
use Rattle.std.proofs.lemmas.Map.Entries.{length-keys_of}
use Rattle.std.specs.Map.{keys_of}
use Rattle.std.proofs.lemmas.Result.{on_ok_weaker}
use Rattle.ss_journal.proofs.KeptLemmas.{unused_bytes}
use Rattle.ss_journal.proofs.MapLemmas.{SameMap-refl}
use Rattle.ss_journal.proofs.PutLemmas.{AreSlots-rise}
use Rattle.ss_journal.proofs.RedoLemmas.{StandsFor-from, StandsFor-same}
use Rattle.ss_journal.proofs.ShownLemmas.{shown-sealed}
use Rattle.ss_records.specs.Calls.{MakesRoomFor, ReadsRecord, SealsRecords, SettlesRecords, StagesPuts}
use Rattle.ss_records.specs.Live.{are_zeros, is_live, live_after, LiveLieBelow, AreLiveBelow, AreLiveIn}
use Rattle.ss_records.specs.Kept.{uncached, AreKept, AreLiveOver, AreSound, RecordsState}
use Rattle.ss_records.specs.Pages.{cached_slot, ArePages}
use Rattle.ss_records.proofs.PageLemmas.{cached_slot-is, ArePages-kept, ArePages-none, ArePages-promoted, ArePages-same}
use Rattle.ss_records.proofs.LiveLemmas.{AreLiveIn-puts, below-live_after, length-live_after}

-- what a journal shows stands for some map
pub StandsFor-kept : (journal : JournalState) (content : List ℕ) → IsKept journal content → (found : SlotMap) × StandsFor (shown journal content) found
StandsFor-kept journal content kept =
    let is = kept.shown in
    (is.found, StandsFor-from (shown journal content) is.found is.found is.map (SameMap-refl is.found))

-- a call that finds a map and leaves one, with nothing staged before it and after it, does so with what is shown
pub shows-sealed : (journal new : JournalState) (content left : List ℕ) (found then : SlotMap) → IsSealed journal → IsSealed new
    → (StandsFor content found → StandsFor left then) → StandsFor (shown journal content) found → StandsFor (shown new left) then
shows-sealed journal new content left found then sealed still gives stands = rw shown-sealed (gives (rw shown-sealed at stands))

-- a slot from the extent on is zeros in the map
pub are_zeros-unused : (journal : JournalState) (content : List ℕ) (found : SlotMap) (slot : ℕ) → IsKept journal content
    → StandsFor (shown journal content) found → slot < 2 ^ 20 → journal.extent ≤ slot → are_zeros (found.bytes slot) ≡ true
are_zeros-unused journal content found slot kept is lt past =
    sym (ap are_zeros (unused_bytes journal (shown journal content) found slot kept.shown is lt (inr past)))

pub IsRunning-settled : (journal : JournalState) → IsSettled journal → IsRunning journal
IsRunning-settled journal settled stopped = cc

-- the live slots are those of each map for which a content stands, if they are those of one
AreLiveIn-same : (live : List Bool) (content : List ℕ) (first found : SlotMap) → StandsFor content first → StandsFor content found
    → AreLiveIn live first.bytes → AreLiveIn live found.bytes
AreLiveIn-same live content first found is also are slot lt =
    are slot lt ∙ ap (λ (bytes : List ℕ). not (are_zeros bytes)) ((StandsFor-same content first found is also).bytes slot lt)

module _ (journal : JournalState) (live : List Bool) (cached : List (ℕ × List ℕ)) (content : List ℕ)
    (kept : AreKept (record { journal = journal; live = live; cached = cached }) content) where
  -- a call of the journal leaves the map that is shown as it is
  pub AreKept-kept : {T E : Type 0} (result : Result T E) (new : JournalState) (left : List ℕ) → OnOk result (IsKept new left)
      → ((found : SlotMap) → StandsFor (shown journal content) found → OnOk result (StandsFor (shown new left) found))
      → OnOk result (AreKept (record { journal = new; live = live; cached = cached }) left)
  AreKept-kept (Ok value) new left is map =
      let some = StandsFor-kept journal content kept.journal in
      record {
        journal = is;
        free = λ found stands. AreLiveIn-same live (shown new left) some.0 found (map some.0 some.1) stands (kept.free some.0 some.1);
        cached = λ found stands. ArePages-same cached (shown new left) some.0 found (map some.0 some.1) stands (kept.cached some.0 some.1);
      }
  AreKept-kept (Err error) new left is map = tt

  -- it changes the map by these puts
  pub AreKept-changed : (puts : List Put) (pages : List (ℕ × List ℕ)) (new : JournalState) (left : List ℕ) → All (λ put. put.slot < length live) puts
      → ((map : ℕ → List ℕ) → ArePages cached map → ArePages pages (with_puts puts map)) → IsKept new left
      → ((found : SlotMap) → StandsFor (shown journal content) found → StandsFor (shown new left) (changed found puts))
      → AreKept (record { journal = new; live = live_after puts live; cached = pages }) left
  AreKept-changed puts pages new left within are is map =
      let some = StandsFor-kept journal content kept.journal in
      record {
        journal = is;
        free = λ found stands. AreLiveIn-same (live_after puts live) (shown new left) (changed some.0 puts) found (map some.0 some.1) stands
            (AreLiveIn-puts puts live some.0.bytes within (kept.free some.0 some.1));
        cached = λ found stands. ArePages-same pages (shown new left) (changed some.0 puts) found (map some.0 some.1) stands
            (are some.0.bytes (kept.cached some.0 some.1));
      }

-- the puts of a transaction are for slots that the list tells of
pub within-live : (puts : List Put) (live : List Bool) → IsTxn puts → length live ≡ 2 ^ 20 → All (λ put. put.slot < length live) puts
within-live puts live txn slots k d lt = let slot = AreSlots-rise 0 puts txn.rise k d lt in omega (arith, slot, slots)

-- a transaction is in the journal, and noted in the list and in the pages
pub AreSound-noted : (journal new : JournalState) (live left : List Bool) (cached pages : List (ℕ × List ℕ)) (puts : List Put) (was : RecordsState)
    → AreSound (record { journal = journal; live = live; cached = cached }) → record { journal = journal; live = live; cached = cached } ≡ was
    → keys_of pages ≡ keys_of cached → IsSettled was.journal → IsTxn puts → IsTrue (slots_fit puts was.journal.extent)
    → new.extent ≡ extent_after puts journal.extent → left ≡ live_after puts live
    → AreSound (record { journal = new; live = left; cached = pages })
AreSound-noted journal new live left cached pages puts was sound same numbers settled txn fit after noted =
    let within = within-live puts live txn sound.slots in
    let running = IsRunning-settled journal (rw (← same) at settled) in
    let fits : IsTrue (slots_fit puts journal.extent) = rw (← same) at fit in
    let as_many : length pages ≡ length cached =
    sym (length-keys_of pages) ∙ ap (λ (keys : List ℕ). length keys) numbers ∙ length-keys_of cached in
    rw noted (record {
      slots = length-live_after puts live ∙ sound.slots;
      below = λ _ slot is. rw after (below-live_after puts live journal.extent within fits (sound.below running) slot is);
      few = omega (arith, sound.few, as_many);
    })

-- from the extent on every slot is zeros, and none is live
pub AreLiveIn-below : (journal : JournalState) (live : List Bool) (content : List ℕ) (found : SlotMap) → IsKept journal content
    → StandsFor (shown journal content) found → LiveLieBelow journal.extent live → AreLiveBelow journal.extent live found.bytes → AreLiveIn live found.bytes
AreLiveIn-below journal live content found kept is bounded are slot lt = elim (cases_lt slot journal.extent) [
  | inl used ↦ are slot used
  | inr past ↦ false_from_ne_true (is_live live slot) (λ lives. absurd (omega (arith, bounded.below slot lives, past)))
      ∙ sym (ap not (are_zeros-unused journal content found slot kept is lt past))
]

-- records over a journal are kept where their live slots are those of its map
pub AreKept-uncached : (journal : JournalState) (live : List Bool) (content : List ℕ) → IsKept journal content → LiveLieBelow journal.extent live
    → AreLiveOver journal live content → AreKept (uncached journal live) content
AreKept-uncached journal live content is bounded are = record {
  journal = is;
  free = λ found stands. AreLiveIn-below journal live content found is stands bounded (are found stands);
  cached = λ found stands. ArePages-none found.bytes;
}

-- records, and what becomes of them over a disk that they keep
module _ (journal : JournalState) (live : List Bool) (cached : List (ℕ × List ℕ)) (was : RecordsState)
    (same : record { journal = journal; live = live; cached = cached } ≡ was) where
  -- puts are staged, and noted in the list and in the pages
  pub stages-puts : (puts : List Put) (new : JournalState) (left : List Bool) (pages : List (ℕ × List ℕ)) (content : List ℕ)
      → All (λ put. put.slot < length live) puts → left ≡ live_after puts live
      → ((map : ℕ → List ℕ) → ArePages cached map → ArePages pages (with_puts puts map)) → Stages puts journal new content
      → StagesPuts puts was (record { journal = new; live = left; cached = pages }) content
  stages-puts puts new left pages content within noted are stages = rw (← same) (record {
    kept = λ kept. rw noted
        (AreKept-changed journal live cached content kept puts pages new content within are (stages.kept kept.journal) (stages.map kept.journal));
    map = λ kept. stages.map kept.journal;
  })

  -- room can't be made
  pub makes-room-failed : (is : RecordsState) (failed : Failed) (old new : Told) → MakesRoom journal is.journal (Err failed) old new
      → MakesRoomFor was is (Err failed) old new
  makes-room-failed is failed old new makes = rw (← same) (record { kept = tt; keeps_shown = makes.keeps_shown })

  -- what is staged can't be sealed
  pub seals-failed : (is : RecordsState) (failed : Failed) (old new : Told) → Seals journal is.journal (Err failed) old new
      → SealsRecords was is (Err failed) old new
  seals-failed is failed old new seals = rw (← same) (record { kept = tt; keeps_shown = seals.keeps_shown; durable = seals.durable })

  -- a page can't be read
  pub reads-failed : (is : RecordsState) (slot : ℕ) (failed : Failed) (result : Result (List ℕ) Failed) (old new : Told) → IsErr result
      → ReadsPage journal (slot / 32) (Err failed) old new → ReadsRecord was is slot result old new
  reads-failed is slot failed (Ok bytes) old new error read = absurd (cc)
  reads-failed is slot failed (Err again) old new error read = record { bytes = λ found stands. tt; kept = tt; reads = read.reads }

  module _ (old : Told) (kept_was : AreKept was old.content) where
    -- they are kept
    kept : AreKept (record { journal = journal; live = live; cached = cached }) old.content
    kept = rw same kept_was

    pub settles-records : (new : Told) (left : JournalState) (result : Result (Unit {0}) Failed) → IsSealed was.journal
        → OnOk result (HasSettled journal left) → Settles left result old new
        → SettlesRecords (record { journal = left; live = live; cached = cached }) result old new
    settles-records new left (Ok value) sealed has settles =
        let before = rw (← same) at sealed in
        record {
          kept = AreKept-kept journal live cached old.content kept {E = Failed} (Ok value) left new.content settles.kept
              (λ found. shows-sealed journal left old.content new.content found found before has.sealed (settles.keeps_map.map found));
          keeps_map = settles.keeps_map;
          makes_durable = settles.makes_durable;
        }
    settles-records new left (Err failed) sealed has settles = record {
      kept = tt;
      keeps_map = settles.keeps_map;
      makes_durable = settles.makes_durable;
    }

    -- room is made
    pub makes-room-for : (new : Told) (left : JournalState) (value done : Unit {0}) → MakesRoom journal left (Ok value) old new
        → MakesRoomFor was (record { journal = left; live = live; cached = cached }) (Ok done) old new
    makes-room-for new left value done makes =
        let is : RecordsState = record { journal = left; live = live; cached = cached } in
        rw (← same) (record {
          kept = AreKept-kept journal live cached old.content kept {E = Failed} (Ok value) left new.content makes.kept makes.keeps_shown.map;
          keeps_shown = record { map = makes.keeps_shown.map; any_moment = makes.keeps_shown.any_moment; durable = makes.keeps_shown.durable };
        })

    -- what is staged is sealed
    pub seals-records : (new : Told) (left : JournalState) (value done : Unit {0}) → Seals journal left (Ok value) old new
        → SealsRecords was (record { journal = left; live = live; cached = cached }) (Ok done) old new
    seals-records new left value done seals =
        let is : RecordsState = record { journal = left; live = live; cached = cached } in
        rw (← same) (record {
          kept = AreKept-kept journal live cached old.content kept {E = Failed} (Ok value) left new.content seals.kept seals.keeps_shown.map;
          keeps_shown = record { map = seals.keeps_shown.map; any_moment = seals.keeps_shown.any_moment; durable = seals.keeps_shown.durable };
          durable = seals.durable;
        })

    -- other pages of the same map
    AreKept-paged : (pages : List (ℕ × List ℕ)) (left : JournalState) → left ≡ journal
        → ((found : SlotMap) → StandsFor (shown journal old.content) found → ArePages cached found.bytes → ArePages pages found.bytes)
        → AreKept (record { journal = left; live = live; cached = pages }) old.content
    AreKept-paged pages left stays are = rw stays (record {
      journal = kept.journal;
      free = kept.free;
      cached = λ found stands. are found stands (kept.cached found stands);
    })

    -- a slot from the extent on
    pub reads-record : (new : Told) (left : JournalState) (slot : ℕ) (result : Result (List ℕ) Failed) → OnOk result (left ≡ journal)
        → ReadsSlot journal slot result old new → ReadsRecord was (record { journal = left; live = live; cached = cached }) slot result old new
    reads-record new left slot result stays read =
        let is : RecordsState = record { journal = left; live = live; cached = cached } in
        rw (← same) (record {
          bytes = read.bytes;
          kept = on_ok_weaker result (λ equal. rw read.reads.same.content (AreKept-paged cached left equal (λ found stands are. are))) stays;
          reads = read.reads;
        })

    -- one whose page is cached
    pub reads-cached : (slot : ℕ) (bytes : List ℕ) → slot < 2 ^ 20 → cached_slot cached slot ≡ Some bytes
        → ReadsRecord was (record { journal = journal; live = live; cached = promoted (nat_eq (slot / 32)) cached }) slot (Ok bytes) old old
    reads-cached slot bytes lt found =
        let pages = promoted (nat_eq (slot / 32)) cached in
        let is : RecordsState = record { journal = journal; live = live; cached = pages } in
        rw (← same) (record {
          bytes = λ map stands. cached_slot-is cached map.bytes (kept.cached map stands) slot bytes found lt;
          kept = AreKept-paged pages journal refl (λ map stands are. ArePages-promoted cached map.bytes are (slot / 32));
          reads = reads-none old;
        })

    -- one whose page is read
    pub reads-page : (new : Told) (left : JournalState) (slot : ℕ) (page : List ℕ) (pages : List (ℕ × List ℕ)) → left ≡ journal
        → (pages ≡ cached) ⊎ (pages ≡ put_entries nat_eq (lru_cache cached 64) (slot / 32) page) → ReadsPage journal (slot / 32) (Ok page) old new
        → ReadsRecord was (record { journal = left; live = live; cached = pages }) slot (Ok (slot_in_page page (slot % 32))) old new
    reads-page new left slot page pages stays keeps read =
        let is : RecordsState = record { journal = left; live = live; cached = pages } in
        rw (← same) (record {
          bytes = λ found stands. read.bytes found stands (slot % 32) (omega arith) ∙ ap found.bytes (omega arith);
          kept = rw read.reads.same.content (AreKept-paged pages left stays (λ found stands are. elim keeps [
            | inl keep ↦ rw keep are
            | inr put ↦ rw put (ArePages-kept cached found.bytes are (slot / 32) 64 page (read.bytes found stands))
          ]));
          reads = read.reads;
        })
