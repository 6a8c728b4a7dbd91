-- A stream whose windows are looked at one after the other, oldest first.
use Rattle.std.proofs.Common.{◌≡◌, ◌∙◌, ℕ, ◌+◌, ◌<◌, List, [], ◌∷◌, ◌++◌, map, refl, sym, ap, subst, arith, append-nil, Option, Some, None, Ok, Err, Result}
use Rattle.std.specs.List.{Contains}
use Rattle.std.proofs.lemmas.List.{map-append}
use Rattle.std.proofs.lemmas.List.Elements.{recursion_from_All}
use Rattle.ss_codec.specs.declared.record.Record.{Record}
use Rattle.ss_line.specs.Line.{IsLine, entry_at, index_of, place_at}
use Rattle.ss_line.specs.declared.entry.At.{At}
use Rattle.ss_line.specs.declared.entry.Entry.{Entry}
use Rattle.ss_line.proofs.Places.{none-first}
use Rattle.ss_catalog.specs.declared.query.Kind.{Kind}
use Rattle.ss_catalog.specs.declared.query.Query.{Query}
use Rattle.ss_landmarks.specs.ValuesIn.{values_between}
use Rattle.ss_model.specs.State.{Stream}
use Rattle.ss_model.specs.declared.types.Window.{Window}
use Rattle.ss_outside.proofs.CrashLemmas.{reads-joined, reads-none}
use Rattle.ss_outside.proofs.StepLemmas.{step-as, step-none, step-then}
use Rattle.ss_outside.specs.Crash.{OnlyReads}
use Rattle.ss_outside.specs.Disk.{DiskView, OfContent, Told}
use Rattle.ss_outside.specs.Step.{Step}
use Rattle.ss_outside.specs.Verdict.{IfChanged, fine}
use Rattle.ss_parts.specs.Held.{entries_of, span_held, span_of, window_record}
use Rattle.ss_parts.specs.declared.parts.StreamParts.{StreamParts}
use Rattle.ss_journal.specs.Kept.{JournalState, shown}
use Rattle.ss_records.specs.Kept.{AreKept, RecordsState, shown_by}
use Rattle.ss_query.specs.Answered.{IsSeenAs, SeesEntry, SeesStream}
use Rattle.ss_query.specs.Asked.{HasCuts, HasRoom, marks_seen, seen_after, seen_of}
use Rattle.ss_query.specs.declared.asking.Seen.{Seen}
use Rattle.ss_parts.specs.declared.read_error.ReadError.TheVariants as error
use Rattle.ss_parts.specs.Places.{BeginsAt}
use Rattle.ss_parts.specs.Slots.{IsHeldIn, HasRecords}
use Rattle.ss_parts.specs.Reading.{KeepsRecords, verdict_of_read}
use Rattle.ss_parts.specs.declared.read_error.ReadError.{ReadError}
use Rattle.ss_parts.proofs.Places.{entries_in}
use Rattle.ss_query.proofs.NextWindow.{AreLeft, AreLeft-early, AreLeft-more, Follows-next, IsBeside-here, IsNext, IsNext-here, IsWalkedTo}
use Rattle.ss_query.proofs.NextWindow.{IsWalkedTo-more, after, late-next, seen_by}
use Rattle.ss_query.proofs.Rooms.{HasRoom-none}

-- Entries are looked at in a row, by records that are others then, of what they show, up to a place of a line. What they show
-- stays, as do content and images.
pub record WalksTo (part : StreamParts) (query : Query) (seen : Seen) (next : Option At) (line : IsWalkedTo part query.from query.to seen next)
    (was is : RecordsState) (old new : Told) : Type 0 where
  pub left : (others : List (ℕ × Option Record)) (s : Stream) → IsHeldIn others part s (shown_by was old.content) →
      AreLeft s part.landmarks.landmarks query.kind query.from query.to (entries_in line.before) (entries_in line.rest) seen
  pub kept : AreKept is new.content
  pub reads : OnlyReads old new

pub record IsAsking (before now : DiskView) (records records_now : RecordsState) (part : StreamParts) (query : Query) (seen : Seen)
    (next : Option At) : Type 0 where
  pub line : IsWalkedTo part query.from query.to seen next
  pub step : Step fine before now (WalksTo part query seen next line records records_now)
  pub journal : records_now.journal ≡ records.journal
  pub live : records_now.live ≡ records.live

-- before the first of a stream's windows
AreLeft-none : (others : List (ℕ × Option Record)) (part : StreamParts) (s : Stream) (image : List ℕ) (kind : Kind) (from to : ℕ) →
    IsHeldIn others part s image →
    AreLeft s part.landmarks.landmarks kind from to [] (entries_of part) (marks_seen kind (values_between part.landmarks.landmarks from to))
AreLeft-none others part s image kind from to held = record {
  gone = [];
  windows = s.windows;
  is = refl;
  spans_gone = refl;
  spans = held.agrees.positions;
  times = held.agrees.times;
  seen_is = refl;
  position = 0;
  time = 0;
  stand = held.stream.windows.stand;
  taken_so_far = omega arith;
  time_so_far = omega arith;
  few = omega (arith, held.stream.windows.few);
}

-- before any record is read
pub IsAsking-none : (disk : DiskView) (records : RecordsState) (part : StreamParts) (query : Query) (start : Option At) →
    BeginsAt part.line.entries query.from start → OfContent disk (AreKept records) →
    IsAsking disk disk records records part query (marks_seen query.kind (values_between part.landmarks.landmarks query.from query.to)) start
IsAsking-none disk records part query start begins kept =
    let values = values_between part.landmarks.landmarks query.from query.to in
    let seen = marks_seen query.kind values in
    let line : IsWalkedTo part query.from query.to seen start = record {
      before = begins.before;
      rest = begins.rest;
      is = begins.is;
      place = begins.place;
      marked = refl;
      room = HasRoom-none query.kind values;
      cuts = record { left = tt; right = tt };
    } in
    let split : entries_of part ≡ entries_in begins.before ++ entries_in begins.rest =
    ap (λ es. entries_in es) begins.is ∙ map-append (λ (e : At × Entry). e.1) begins.before begins.rest in
    record {
      line = line;
      step = step-none disk (WalksTo part query seen start line records records) (λ told. record {
        left = λ others s held.
            AreLeft-early s part.landmarks.landmarks query.kind query.from query.to [] begins.before (entries_in begins.rest) seen
            (recursion_from_All (λ (e : At × Entry). e.1.t_last < query.from) begins.before begins.early)
            (rw split at (AreLeft-none others part s (shown_by records disk.told.content) query.kind query.from query.to held));
        kept = kept told;
        reads = reads-none disk.told;
      });
      journal = refl;
      live = refl;
    }

-- the same, where the place is known
pub asking-at : {before now : DiskView} {records records_now : RecordsState} {part : StreamParts} {query : Query} {seen : Seen}
    {next place : Option At} → next ≡ place → IsAsking before now records records_now part query seen next →
    IsAsking before now records records_now part query seen place
asking-at {before} {now} {records} {records_now} {part} {query} {seen} same asking = rw same at asking

-- the window that changed is one of the stream
pub changed-window : (why : ReadError) (slot : ℕ) (slots : List ℕ) → IfChanged (verdict_of_read {T = Seen} (Err why)) (λ at. at ≡ slot) →
    Contains slots slot → IfChanged (verdict_of_read {T = Seen} (Err why)) (Contains slots)
changed-window error.Disk slot slots changed among = tt
changed-window (error.Changed at) slot slots changed among = rw changed among

-- what is known of all windows is known of the stream
seen-whole : (part : StreamParts) (kind : Kind) (from to : ℕ) (seen : Seen) (s : Stream) → part.landmarks.landmarks ≡ s.landmarks →
    seen ≡ seen_by part.landmarks.landmarks kind from to s.windows → seen ≡ seen_of kind from to s
seen-whole part kind from to seen s same is = is ∙ ap (λ ls. seen_by ls kind from to s.windows) same

-- a failure says nothing of what is known
IsSeenAs-err : (one other : Seen) (why : ReadError) → IsSeenAs one (Err why) → IsSeenAs other (Err why)
IsSeenAs-err one other error.Disk read = tt
IsSeenAs-err one other (error.Changed slot) read = absurd read

-- what is shown stays where the journal and the content do
shown-stays : (was is : JournalState) (old new : List ℕ) → is ≡ was → new ≡ old → shown was old ≡ shown is new
shown-stays was is old new journal content = ap (shown was) (sym content) ∙ ap (λ (j : JournalState). shown j new) (sym journal)

-- one more entry is looked at
module _ {before mid : DiskView} {records records_mid : RecordsState} {part : StreamParts} {seen : Seen} {at : At} {entry : Entry} (query : Query)
    (line : IsLine part.line) (asking : IsAsking before mid records records_mid part query seen (Some at))
    (read : entry_at part.line.entries at ≡ Some entry) where
  abbrev kind : Kind
  kind = query.kind

  abbrev from : ℕ
  from = query.from

  abbrev to : ℕ
  to = query.to

  -- the window that was to be looked at
  record IsSeenNext (s : Stream) (result : Result Seen ReadError) : Type 0 where
    next : IsNext s part.landmarks.landmarks kind from to (entries_in asking.line.before) entry (entries_in (after line asking.line read)) seen
    is : IsSeenAs (seen_after part.landmarks.landmarks kind from to seen next.window) result

  sees-next : (old now new : Told) (records_new : RecordsState) (result : Result Seen ReadError) →
      WalksTo part query seen (Some at) asking.line records records_mid old now → SeesEntry part query entry seen records_mid records_new result now new →
      (others : List (ℕ × Option Record)) (s : Stream) → IsHeldIn others part s (shown_by records old.content) → IsSeenNext s result
  sees-next old now new records_new result walks sees others s held =
      let next = IsNext-here line asking.line read s (walks.left others s held) in
      let beside = IsBeside-here line asking.line read others s (shown_by records old.content) held next in
      let has = subst (λ image. HasRecords ((entry.slot, Some (window_record part.id.0 next.window)) ∷ beside.others) image)
      (shown-stays records.journal records_mid.journal old.content now.content asking.journal walks.reads.same.content) beside.has in
      record { next = next; is = sees.window beside.others next.window has next.span next.time beside.free (Follows-next next) }

  module _ {after_it : DiskView} {records_now : RecordsState} where
    -- what follows where it can't be seen
    pub failed-look : (why : ReadError) →
        Step (verdict_of_read {T = Seen} (Err why)) mid after_it (SeesEntry part query entry seen records_mid records_now (Err why)) →
        Step (verdict_of_read {T = Seen} (Err why)) before after_it (SeesStream part query records records_now (Err why))
    failed-look why step =
        step-then {Q = SeesEntry part query entry seen records_mid records_now (Err why)} asking.step step
        (λ walks sees. record {
          seen = λ others s held.
              let is = sees-next before.told mid.told after_it.told records_now (Err why) walks sees others s held in
              IsSeenAs-err (seen_after part.landmarks.landmarks kind from to seen is.next.window) (seen_of kind from to s) why is.is;
          kept = sees.kept;
          reads = reads-joined before.told mid.told after_it.told walks.reads sees.reads;
        })

    pub IsAsking-more : (now : Seen) → Step fine mid after_it (SeesEntry part query entry seen records_mid records_now (Ok now)) →
        HasRoom now × (now.marked ≡ seen.marked) → HasCuts now → KeepsRecords fine records_mid records_now → (next : Option At) →
        next ≡ place_at part.line.entries (index_of part.line.entries at + 1) →
        IsAsking before after_it records records_now part query now next
    unfolding IsWalkedTo-more after
    IsAsking-more now step room cuts keeps next place = record {
      line = IsWalkedTo-more line asking.line read next now place room.0 room.1 cuts;
      step = step-then asking.step step (λ walks sees. record {
        left = λ others s held.
            let it = sees-next before.told mid.told after_it.told records_now (Ok now) walks sees others s held in
            AreLeft-more line asking.line read s now it.next it.is;
        kept = sees.kept;
        reads = reads-joined before.told mid.told after_it.told walks.reads sees.reads;
      });
      journal = keeps.journal ∙ asking.journal;
      live = keeps.live ∙ asking.live;
    }

  -- where it begins after the range, what is known is all
  pub late-look : to < entry.t_first → Step fine before mid (SeesStream part query records records_mid (Ok seen))
  late-look late =
      step-as asking.step (λ walks. record {
        seen = λ others s held.
            seen-whole part kind from to seen s held.agrees.landmarks (late-next (IsNext-here line asking.line read s (walks.left others s held)) late);
        kept = walks.kept;
        reads = walks.reads;
      })

no-spans : (ws : List Window) → map span_of ws ≡ [] → ws ≡ []
no-spans [] none = refl
no-spans (w ∷ ws) none = absurd (cc)

-- at the end of the line all windows were looked at
seen-all : (part : StreamParts) (kind : Kind) (from to : ℕ) (seen : Seen) (line : IsWalkedTo part from to seen None) (s : Stream) →
    AreLeft s part.landmarks.landmarks kind from to (entries_in line.before) (entries_in line.rest) seen →
    seen ≡ seen_by part.landmarks.landmarks kind from to s.windows
seen-all part kind from to seen line s left =
    let none : line.rest ≡ [] = none-first line.rest line.place in
    let none_left : left.windows ≡ [] = no-spans left.windows (sym left.spans ∙ ap (λ es. map span_held (entries_in es)) none) in
    left.seen_is
    ∙ ap (λ ws. seen_by part.landmarks.landmarks kind from to ws) (sym (left.is ∙ ap (λ ws. left.gone ++ ws) none_left ∙ append-nil left.gone))

pub all-look : {before now : DiskView} {records records_now : RecordsState} {part : StreamParts} {seen : Seen} (query : Query) →
    IsAsking before now records records_now part query seen None → Step fine before now (SeesStream part query records records_now (Ok seen))
all-look {part = part} {seen = seen} query asking =
    step-as asking.step (λ walks. record {
      seen = λ others s held.
          seen-whole part query.kind query.from query.to seen s held.agrees.landmarks
          (seen-all part query.kind query.from query.to seen asking.line s (walks.left others s held));
      kept = walks.kept;
      reads = walks.reads;
    })
