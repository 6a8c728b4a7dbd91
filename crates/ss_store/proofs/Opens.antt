-- What opening reads, and what it leaves of the disk.
use Rattle.ss_store.proofs.Common.{◌≡◌, ◌≤◌, ℕ, List, arith, flat_map, zip, refl, ap, ◌∙◌, Result, Ok, Err, IsErr, KnowsNow, OnlyReads, Told}
use Rattle.ss_store.proofs.Common.{IfUndone, IsFirm, Verdict, IsKept, IsSealed, JournalState, shown, SlotMap, StandsFor, SameMap-refl, StandsFor-from}
use Rattle.ss_store.proofs.Common.{shown-sealed, AreKept, RecordsState, closed_state, IsState, Stream, state, AllAgree, records_held, Parts, StreamParts}
use Rattle.ss_store.proofs.Common.{KeepsWithin, Turns, OpensStore, OpensAs, SettlesAll, verdict_of_opening, verdict_of_read, StoreIsKept, StoreState}
use Rattle.ss_store.proofs.Common.{HasRebuilt, HasRebuiltBeside, IsRebuilt, Recovers, Stands, recovered_from, recovered_of, OpenError, ReadError}
use Rattle.ss_outside.specs.Verdict as verdicts
use Rattle.ss_journal.specs.Calls.{verdict_of_open}
use Rattle.ss_journal.specs.Kept as Journals
use Rattle.ss_journal.specs.declared.journal_error.JournalError.{JournalError}
use Rattle.ss_journal.specs.declared.journal_error.JournalError.TheVariants as journal
use Rattle.ss_recover.specs.Rebuilt.{RebuildsAs, verdict_of_rebuild}
use Rattle.ss_recover.specs.declared.recover_error.RecoverError.{RecoverError}
use Rattle.ss_recover.specs.declared.recover_error.RecoverError.TheVariants as recovering
use Rattle.ss_store.specs.Calls.{KeepsHistory, KeepsState}
use Rattle.ss_store.specs.Errors.{open_of_fault, open_of_journal, open_of_recover}
use Rattle.ss_store.specs.Recover.{recover}
use Rattle.ss_parts.specs.declared.read_error.ReadError.TheVariants as fault
use Rattle.ss_stream.proofs.Changes.{extent-kept}
use Rattle.ss_stream.proofs.Calls.{Turns-answers, Turns-failed, Turns-reads, Turns-then, Turns-weaker}
use Rattle.ss_stream.proofs.Within.{KeepsWithin-answers, KeepsWithin-failed, KeepsWithin-reads, KeepsWithin-then}
use Rattle.ss_store.proofs.Among.{Recovers-held, recover-StandsFor}
use Rattle.ss_store.proofs.ClosingAll.{IsState-closed_state, closed_state-again}
use Rattle.ss_store.proofs.KeptStates.{Recovers-same}
use Rattle.ss_store.proofs.Settlings.{Recovers-beside}

-- why there is no store
pub OpensAs-journal : (content : List ℕ) (error : JournalError) → Journals.OpensMapAs content (Err error) → OpensAs content (Err (open_of_journal error))
unfolding recover
OpensAs-journal content journal.Disk opens = tt
OpensAs-journal content journal.NotAStore opens = ap recovered_from opens
OpensAs-journal content (journal.BadEntry n) opens = ap recovered_from opens
OpensAs-journal content journal.OutOfMemory opens = tt

pub OpensAs-recover : (content : List ℕ) (found : SlotMap) (error : RecoverError) → StandsFor content found → RebuildsAs found (Err error) →
    OpensAs content (Err (open_of_recover error))
OpensAs-recover content found (recovering.BadSlot n) is rebuilds = recover-StandsFor content found is ∙ ap recovered_of rebuilds
OpensAs-recover content found (recovering.BadStream id) is rebuilds = recover-StandsFor content found is ∙ ap recovered_of rebuilds
OpensAs-recover content found recovering.Disk is rebuilds = tt
OpensAs-recover content found recovering.OutOfMemory is rebuilds = tt

pub OpensAs-firm : (content : List ℕ) (why : ReadError) → IsFirm (verdict_of_read {T = Unit {0}} (Err why)) → OpensAs content (Err (open_of_fault why))
OpensAs-firm content fault.Disk firm = tt
OpensAs-firm content (fault.Changed slot) firm = absurd firm

-- its verdict is that of the call below
pub verdict-journal : (S T : Type 0) (error : JournalError) → verdict_of_open {T = S} (Err error) ≡ verdict_of_opening {T = T} (Err (open_of_journal error))
verdict-journal S T journal.Disk = refl
verdict-journal S T journal.NotAStore = refl
verdict-journal S T (journal.BadEntry n) = refl
verdict-journal S T journal.OutOfMemory = refl

pub verdict-recover : (S T : Type 0) (error : RecoverError) → verdict_of_rebuild {T = S} (Err error) ≡ verdict_of_opening {T = T} (Err (open_of_recover error))
verdict-recover S T (recovering.BadSlot n) = refl
verdict-recover S T (recovering.BadStream id) = refl
verdict-recover S T recovering.Disk = refl
verdict-recover S T recovering.OutOfMemory = refl

pub verdict-fault : (S T : Type 0) (why : ReadError) → verdict_of_read {T = S} (Err why) ≡ verdict_of_opening {T = T} (Err (open_of_fault why))
verdict-fault S T fault.Disk = refl
verdict-fault S T (fault.Changed slot) = refl

pub firm-journal : (T : Type 0) (error : JournalError) → IsFirm (verdict_of_opening {T = T} (Err (open_of_journal error)))
firm-journal T journal.Disk = tt
firm-journal T journal.NotAStore = tt
firm-journal T (journal.BadEntry n) = tt
firm-journal T journal.OutOfMemory = tt

pub firm-recover : (T : Type 0) (error : RecoverError) → IsFirm (verdict_of_opening {T = T} (Err (open_of_recover error)))
firm-recover T (recovering.BadSlot n) = tt
firm-recover T (recovering.BadStream id) = tt
firm-recover T recovering.Disk = tt
firm-recover T recovering.OutOfMemory = tt

-- the map of a content that a journal keeps
pub StandsFor-kept : (journal : JournalState) (content : List ℕ) (kept : IsKept journal content) → IsSealed journal → StandsFor content kept.shown.found
StandsFor-kept journal content kept sealed =
    let found = kept.shown.found in
    rw shown-sealed at (StandsFor-from (shown journal content) found found kept.shown.map (SameMap-refl found))

-- the extent of the map of a content that records keep is theirs
extent-opened : (records : RecordsState) (content : List ℕ) (found : SlotMap) → AreKept records content → IsSealed records.journal →
    StandsFor content found → found.extent ≡ records.journal.extent
extent-opened records content found kept sealed is = extent-kept records content found kept (rw shown-sealed is)

-- What was rebuilt of the records of a journal that is kept.
pub IsRebuilt-from : (journal : JournalState) (parts : Parts) (content : List ℕ) → IsSealed journal → IsKept journal content →
    ((found : SlotMap) → StandsFor content found → RebuildsAs found (Ok parts)) → IsRebuilt parts.doomed.items parts.streams.items content
IsRebuilt-from journal parts content sealed kept rebuilds =
    let found = kept.shown.found in
    let is = StandsFor-kept journal content kept sealed in
    let built = rebuilds found is in
    record {
      streams = built.streams;
      state = built.held.state;
      agree = built.held.each;
      records = record {
        doomed = built.doomed;
        lie_in = built.slots;
        records = record { found = found; map = is; occupied = built.held.records; carried = built.carried; in_turn = built.in_turn };
      };
    }

pub Recovers-rebuilt : (slots : List ℕ) (parts : List StreamParts) (content : List ℕ) (is : IsRebuilt slots parts content) →
    Recovers (closed_state is.streams) content
Recovers-rebuilt slots parts content is = Recovers-beside slots parts is.streams content is.records

-- what holds of closed streams that are held
pub Recovers-closed : (now : List StreamParts) (streams : List Stream) (image : List ℕ) → IsState streams → AllAgree now (closed_state streams) →
    HasRebuilt now (closed_state streams) image → Recovers (closed_state streams) image
Recovers-closed now streams image state agree has =
    rw closed_state-again at (Recovers-held now (closed_state streams) image agree (IsState-closed_state streams state) has)

-- a call that leaves the state of what was rebuilt keeps the state
pub KeepsState-rebuilt : {T E : Type 0} (slots : List ℕ) (parts : List StreamParts) (old new : Told) (result : Result T E)
    (is : IsRebuilt slots parts old.content) (M Q : List ℕ → Type 0) → ((image : List ℕ) → M image → Recovers (closed_state is.streams) image) →
    ((image : List ℕ) → Q image → Recovers (closed_state is.streams) image) →
    Turns (HasRebuiltBeside slots parts is.streams) M Q old new result → KeepsState old new result
KeepsState-rebuilt slots parts old new result is M Q crash after turns streams =
    let same : Recovers streams old.content → (image : List ℕ) → Recovers (closed_state is.streams) image → Recovers streams image =
    λ has image left. rw (Recovers-same (closed_state is.streams) streams old.content (Recovers-rebuilt slots parts old.content is) has) at left in
    Turns-weaker (HasRebuiltBeside slots parts is.streams) (Recovers streams) M (Recovers streams) Q (Recovers streams) old new result
    (λ has. is.records) (λ has image left. same has image (crash image left)) (λ has image left. same has image (after image left)) turns

-- the streams were rebuilt, and then the store was settled and the streams closed
module _ (slots : List ℕ) (parts now : List StreamParts) (old read new : Told) (knows : KnowsNow old) (is : IsRebuilt slots parts old.content)
    (reads : OnlyReads old read) where
  abbrev Closes : {T E : Type 0} → Result T E → Type 0
  Closes step =
      Turns (HasRebuiltBeside slots parts is.streams) (Recovers (closed_state is.streams)) (HasRebuilt now (closed_state is.streams)) read new step

  pub held_read : HasRebuiltBeside slots parts is.streams read.content
  held_read = rw reads.same.content is.records

  closed-from_start : {T E : Type 0} (step : Result T E) → Closes step →
      Turns (HasRebuiltBeside slots parts is.streams) (Recovers (closed_state is.streams)) (HasRebuilt now (closed_state is.streams)) old new step
  closed-from_start step closes =
      let has = HasRebuiltBeside slots parts is.streams in
      let recovers = Recovers (closed_state is.streams) in
      Turns-then {S = Unit {0}} {F = Unit {0}} has has has recovers (HasRebuilt now (closed_state is.streams)) recovers old read new tt step
      (Turns-reads has has old read (Ok tt) knows reads (λ held. held)) closes
      (λ image held. Recovers-beside slots parts is.streams image held) (λ image left. left)

  -- closing failed
  pub KeepsState-unclosed : {S F T E : Type 0} (step : Result S F) (result : Result T E) → Closes step → IsErr result → KeepsState old new result
  KeepsState-unclosed step result closes failed =
      let has = HasRebuiltBeside slots parts is.streams in
      let recovers = Recovers (closed_state is.streams) in
      KeepsState-rebuilt slots parts old new result is recovers recovers (λ image left. left) (λ image left. left)
      (Turns-failed has recovers (HasRebuilt now (closed_state is.streams)) recovers old new step result failed (closed-from_start step closes))

  -- the streams were closed
  pub KeepsState-closed : {S F T E : Type 0} (value : S) (result : Result T E) → Closes {T = S} {E = F} (Ok value) → AllAgree now (closed_state is.streams) →
      KeepsState old new result
  KeepsState-closed value result closes agree =
      let has = HasRebuiltBeside slots parts is.streams in
      let recovers = Recovers (closed_state is.streams) in
      let held = HasRebuilt now (closed_state is.streams) in
      KeepsState-rebuilt slots parts old new result is recovers held (λ image left. left)
      (λ image left. Recovers-closed now is.streams image is.state agree left)
      (Turns-answers has recovers held old new value result (closed-from_start (Ok value) closes))

  pub OpensAs-closed : (store : StoreState) → AllAgree store.streams (closed_state is.streams) → OpensAs old.content (Ok store)
  OpensAs-closed store agree =
      (closed_state is.streams, Recovers-rebuilt slots parts old.content is, agree, IsState-closed_state is.streams is.state)

  pub StoreIsKept-closed : (store : StoreState) → Closes {T = Unit {0}} {E = ReadError} (Ok tt) → AreKept store.records new.content →
      IsSealed store.records.journal → store.streams ≡ now → AllAgree now (closed_state is.streams) → StoreIsKept store new.content
  StoreIsKept-closed store closes kept sealed same agree =
      let all = λ (parts : List StreamParts). flat_map records_held (zip parts (closed_state is.streams)) in
      record {
        records = kept;
        shown = record {
          streams = closed_state is.streams;
          state = IsState-closed_state is.streams is.state;
          agree = rw same agree;
          held = rw (shown-sealed, same) (closes.content held_read);
          closed = closed_state-again is.streams is.state;
        };
      }

-- what keeps the state keeps the history
KeepsHistory-state : {T E : Type 0} (old new : Told) (result : Result T E) → KeepsState old new result → KeepsHistory old new result
KeepsHistory-state old new result keeps history =
    let is = Recovers (state history) in
    let stands = Stands history in
    Turns-weaker is stands is stands is stands old new result (λ has. has.state) (λ has image left. record { is_history = has.is_history; state = left })
    (λ has image left. record { is_history = has.is_history; state = left }) (keeps (state history))

undone : (v : Verdict) (P : Type 0) → P → IfUndone v P
undone verdicts.fine P is = tt
undone verdicts.refused P is = is
undone verdicts.no_memory P is = is
undone verdicts.stopped P is = is
undone verdicts.failed P is = tt
undone (verdicts.changed slot) P is = tt

unwritten-fault : (why : ReadError) (P : Type 0) → IfUndone (verdict_of_opening {T = StoreState} (Err (open_of_fault why))) P
unwritten-fault fault.Disk P = tt
unwritten-fault (fault.Changed slot) P = tt

-- a store that wasn't opened, with nothing written
pub OpensStore-read : (error : OpenError) (old new : Told) → KnowsNow old → OnlyReads old new → OpensAs old.content (Err error) → OpensStore (Err error) old new
OpensStore-read error old new knows reads opens =
    let keeps : KeepsState {T = StoreState} old new (Err error) = λ streams. Turns-reads (Recovers streams) (Recovers streams) old new (Err error)
    knows reads (λ has. has) in
    record {
      opens = opens;
      kept = tt;
      state = keeps;
      history = KeepsHistory-state old new (Err error) keeps;
      unwritten = undone (verdict_of_opening {T = StoreState} (Err error)) (OnlyReads old new) reads;
      judged = λ none. reads;
      within = KeepsWithin-reads (Err error) knows reads;
      extent = λ found is. tt;
    }

-- what was read was settled and closed, or it failed at that
module _ (slots : List ℕ) (parts now : List StreamParts) (old read new : Told) (knows : KnowsNow old) (is : IsRebuilt slots parts old.content)
    (reads : OnlyReads old read) (records : RecordsState) where
  judged-rebuilt : ((streams : List Stream) → Recovers streams old.content → ⊥) → OnlyReads old new
  judged-rebuilt none = absurd (none (closed_state is.streams) (Recovers-rebuilt slots parts old.content is))

  -- how many slots are used by then
  within-read : {T E : Type 0} (result : Result T E) → KeepsWithin 0 result read new → KeepsWithin 0 result old new
  within-read result within = KeepsWithin-then result (KeepsWithin-reads {T = Unit {0}} {E = Unit {0}} (Ok tt) knows reads) within

  pub OpensStore-unclosed : (why : ReadError) → SettlesAll slots parts now records (Err why) read new → OpensStore (Err (open_of_fault why)) old new
  OpensStore-unclosed why closes =
      let failed : Result StoreState OpenError = Err (open_of_fault why) in
      let has = held_read slots parts now old read new knows is reads in
      let keeps : KeepsState old new failed =
      KeepsState-unclosed slots parts now old read new knows is reads (Err why) failed (closes.turns is.streams is.state is.agree) refl in
      record {
        opens = OpensAs-firm old.content why (closes.firm is.streams is.state is.agree has);
        kept = tt;
        state = keeps;
        history = KeepsHistory-state old new failed keeps;
        unwritten = unwritten-fault why (OnlyReads old new);
        judged = judged-rebuilt;
        within = KeepsWithin-failed failed refl (within-read (Err why) closes.within);
        extent = λ found is. tt;
      }

  pub OpensStore-closed : (store : StoreState) → SettlesAll slots parts now records (Ok tt) read new → store.streams ≡ now → store.records ≡ records →
      IsSealed store.records.journal → (first : RecordsState) → AreKept first read.content → IsSealed first.journal →
      store.records.journal.extent ≤ first.journal.extent → OpensStore (Ok store) old new
  OpensStore-closed store closes same same_records sealed first opened first_sealed less =
      let has = held_read slots parts now old read new knows is reads in
      let agree = closes.agree is.streams is.state is.agree has in
      let turns = closes.turns is.streams is.state is.agree in
      let keeps : KeepsState {T = StoreState} {E = OpenError} old new (Ok store) =
      KeepsState-closed slots parts now old read new knows is reads tt (Ok store) turns agree in
      record {
        opens = OpensAs-closed slots parts now old read new knows is reads store (rw same agree);
        kept = StoreIsKept-closed slots parts now old read new knows is reads store turns (rw same_records closes.kept) sealed same agree;
        state = keeps;
        history = KeepsHistory-state old new (Ok store) keeps;
        unwritten = tt;
        judged = judged-rebuilt;
        within = KeepsWithin-answers (Ok store) (within-read (Ok tt) closes.within);
        extent = λ found is. omega (arith, extent-opened first read.content found opened first_sealed (rw reads.same.content is), less);
      }
