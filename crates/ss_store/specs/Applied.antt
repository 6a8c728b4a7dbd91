-- What an event does to a store and its disk, and what a look does.
use Rattle.std.specs.Prelude.{◌≡◌, ◌↔◌, ℕ, ◌+◌, ◌-◌, ◌*◌, ◌≤◌, Bool, true, false, not, List, [], map, max, slice_get, Contains, Result}
use Rattle.std.specs.Prelude.{Err, Some, IfOk, IfSome, OnOk, IsTrue, option_map}
use Rattle.ss_outside.specs.Crash.{OnlyReads}
use Rattle.ss_outside.specs.Disk.{DiskView, Told, OfContent}
use Rattle.ss_outside.specs.Step.{Step}
use Rattle.ss_outside.specs.Verdict.{Verdict, IfChanged, IfUndone, IsFirm, OnFine, OnNoMemory, OnRefused}
use Rattle.ss_outside.specs.declared.source.Failed.{Failed}
use Rattle.ss_journal.specs.Redo.{SlotMap, StandsFor}
use Rattle.ss_catalog.specs.Events.{event_name}
use Rattle.ss_catalog.specs.declared.event.Event.{Event}
use Rattle.ss_catalog.specs.declared.event.Event.TheVariants.{Create, Value, Open, Close, Drop}
use Rattle.ss_catalog.specs.declared.query.Query.{Query}
use Rattle.ss_catalog.specs.declared.refusal.Refusal.{Refusal}
use Rattle.ss_line.specs.declared.entry.At.{At}
use Rattle.ss_line.specs.Line.{index_of}
use Rattle.ss_targets.specs.Lengths.{lengths_of}
use Rattle.ss_targets.specs.Rule.{rule_of}
use Rattle.ss_targets.specs.Targets.{params_of}
use Rattle.ss_model.specs.Answers.{HoldsTruth, IsExactOutcome, outcome_of, split_by}
use Rattle.ss_model.specs.Decay.{IsReadWithinTarget, cover, steps_met}
use Rattle.ss_model.specs.History.{marked_of, values_of, Happened}
use Rattle.ss_model.specs.Shown.{placed_of}
use Rattle.ss_model.specs.State.{Stream, state, stream_named, stream_numbered, values_in}
use Rattle.ss_model.specs.declared.outcome.Outcome.{Outcome}
use Rattle.ss_model.specs.declared.types.Ack.{Ack}
use Rattle.ss_model.specs.declared.types.Placed.{Placed}
use Rattle.ss_parts.specs.Held.{entries_of, window_slots_of}
use Rattle.ss_parts.specs.declared.parts.StreamParts.{StreamParts}
use Rattle.ss_records.specs.Kept.{RecordsState, shown_by}
use Rattle.ss_store.specs.Calls.{KeepsHistory, KeepsState, SealsHistory, StepsState}
use Rattle.ss_store.specs.Causes.{OpensAs, said_of_held}
use Rattle.ss_query.specs.Asked.{seen_of}
use Rattle.ss_query.specs.declared.asking.Seen.{Seen}
use Rattle.ss_stream.specs.Calls.{KeepsWithin, StaysWithin, TurnsShown}
use Rattle.ss_stream.specs.Held.{ends_held}
use Rattle.ss_store.specs.Errors.{stopped_after, verdict_of_apply, verdict_of_opening}
use Rattle.ss_store.specs.Kept.{SameButSpare, StoreIsKept, StoreState, is_of_landmark, live_held, part_named, part_numbered, refuses_held}
use Rattle.ss_store.specs.Recover.{Recovers, Stands}
use Rattle.ss_store.specs.Surveyed.{SurveysAs}
use Rattle.ss_store.specs.declared.error.ApplyError.{ApplyError}
use Rattle.ss_store.specs.declared.error.ApplyError.TheVariants as apply
use Rattle.ss_store.specs.declared.error.AskError.{AskError}
use Rattle.ss_store.specs.declared.error.OpenError.{OpenError}
use Rattle.ss_store.specs.declared.surveying.Survey.{Survey}

-- The disk is that of the store, unless the store has stopped.
abbrev pub StandsOn : StoreState → DiskView → Type 0
StandsOn store disk = store.stopped ≡ false → OfContent disk (StoreIsKept store)

-- whether an event is a value outside landmarks
abbrev pub is_plain_value : List StreamParts → Event → Bool
is_plain_value parts (Create name params) = false
is_plain_value parts (Value name t v) = not (is_of_landmark parts (Value name t v))
is_plain_value parts (Open name t) = false
is_plain_value parts (Close name t) = false
is_plain_value parts (Drop name) = false

-- whether an event leaves no value in its stream: it creates or drops it
abbrev pub leaves_no_value : Event → Bool
leaves_no_value (Create name params) = true
leaves_no_value (Value name t v) = false
leaves_no_value (Open name t) = false
leaves_no_value (Close name t) = false
leaves_no_value (Drop name) = true

-- At most 2(K + B - 1) - 1 windows stand where K target windows cover the values, and the times of the windows lie in B steps.
-- Without a step they lie in one, and these are 2K - 1.
abbrev pub IsFew : List StreamParts → Event → Ack → Type 0
IsFew parts event ack =
    IfSome (part_named (event_name event) parts) (λ part.
    let rule = rule_of (params_of part.target) in
    ack.k + 1 ≤ 2 * (cover rule.lengths ack.n + steps_met rule.step (ends_held (entries_of part)) - 1))

-- What an event does to a store that hasn't stopped, and to its disk.
pub record Applies (event : Event) (old new : StoreState) (before after : DiskView) (result : Result Ack ApplyError) : Type 0 where
  -- the state that its records show makes a step, wholly or not at all, also in a crash
  pub step : Step (verdict_of_apply result) before after (StepsState event old.records new.records result)
  pub stands : StandsOn new after
  -- the reply is read off the stream as it is held then
  pub ack : IfOk result (λ ack. ack ≡ said_of_held (part_named (event_name event) new.streams))
  -- over every disk, and whatever was opened
  pub decay : is_plain_value old.streams event ≡ true → IfOk result (IsFew new.streams event)
  -- a stream that was just created or dropped has no value and no window
  pub empty : leaves_no_value event ≡ true → IfOk result (λ ack. ack ≡ record { n = 0; k = 0 })
  -- each refusal exactly where it applies
  pub refused : (r : Refusal) → (result ≡ Err (apply.Refused r)) ↔ (refuses_held old.streams event ≡ Some r)
  pub same : OnRefused (verdict_of_apply result) (new ≡ old)
  pub starved : OnNoMemory (verdict_of_apply result) (SameButSpare old new)
  pub stops : new.stopped ≡ stopped_after old.stopped (verdict_of_apply result)
  pub firm : IsTrue before.tells → IsFirm (verdict_of_apply result)
  -- no more slots are used than the records need
  pub extent : OnOk result (new.records.journal.extent ≤ max old.records.journal.extent (live_held old.streams + 1))
  -- where the record of a slot has changed, a window of the stream is held there
  pub changed : IfChanged (verdict_of_apply result)
      (λ slot. IfSome (part_named (event_name event) new.streams) (λ part. Contains (window_slots_of part) slot))

-- What is staged is sealed by a store, which is another then: what it shows stays, and comes to the disk as a whole, if it does.
pub record SealsStore (was is : StoreState) (result : Result Unit Failed) (old new : Told) : Type 0 where
  pub kept : OnOk result (StoreIsKept is new.content)
  pub state : (streams : List Stream) →
      TurnsShown was.records is.records (Recovers streams) (Recovers streams) (Recovers streams) old new result
  pub history : SealsHistory was.records is.records result old new
  -- no more slots are used, also in a crash
  pub within : StaysWithin 0 was.records is.records result old new

-- What a look does to a store, whatever was asked: it writes nothing, and leaves all but the flag, where it stops.
pub record Looks (v : Verdict) (old new : StoreState) (before after : DiskView) : Type 0 where
  pub stands : StandsOn new after
  pub streams : new.streams ≡ old.streams
  pub live : new.records.live ≡ old.records.live
  pub journal : OnFine v (new.records.journal ≡ old.records.journal)
  pub stops : new.stopped ≡ stopped_after old.stopped v
  pub firm : IsTrue before.tells → IsFirm v

-- A stream is looked at for a query, of what records show. Content and images stay.
pub record Sees (was : RecordsState) (query : Query) (result : Result Seen AskError) (old new : Told) : Type 0 where
  -- what is known of the stream, in the state that they show
  pub seen : (streams : List Stream) → Recovers streams (shown_by was old.content) →
      IfOk result (λ seen. option_map (seen_of query.kind query.from query.to) (stream_named query.name streams) ≡ Some seen)
  pub reads : OnlyReads old new

-- A query is answered, of what records show. Content and images stay.
pub record Answers (was : RecordsState) (query : Query) (result : Result Outcome AskError) (old new : Told) : Type 0 where
  -- the answer of the state that they show
  pub answer : (streams : List Stream) → Recovers streams (shown_by was old.content) → IfOk result (λ outcome. outcome_of streams query ≡ Some outcome)
  -- it holds the truth over all values of the stream, those of its landmarks among them, for every history that is shown
  pub truth : (history : List Happened) → Stands history (shown_by was old.content) →
      IfOk result (HoldsTruth query (values_of history query.name) (marked_of history query.name))
  -- it leaves nothing open where the range splits no window
  pub exact : (streams : List Stream) → Recovers streams (shown_by was old.content) → split_by streams query ≡ [] → IfOk result IsExactOutcome
  pub reads : OnlyReads old new

-- The window at a place of the stream of a number is read, of what a store shows. Content and images stay.
pub record ShowsWindow (number : ℕ) (at : At) (store : StoreState) (result : Result Placed AskError) (old new : Told) : Type 0 where
  -- that of the state that it shows
  pub window : (streams : List Stream) → Recovers streams (shown_by store.records old.content) →
      IfOk result (λ placed. IfSome (part_numbered number store.streams) (λ part. IfSome (stream_numbered number streams) (λ s.
      slice_get (map placed_of s.windows) (index_of part.line.entries at) ≡ Some placed)))
  -- it is at most as long as the target window that holds its newest value
  pub within : (history : List Happened) → Stands history (shown_by store.records old.content) →
      IfOk result (λ placed. IfSome (stream_numbered number (state history)) (λ s.
      IsReadWithinTarget (lengths_of s.params) (values_in s) placed))
  pub reads : OnlyReads old new

-- A store is opened: its streams are those that the content recovers to, or it is told why it recovers to none. What the content
-- stands for stays, also in a crash at any moment of the call.
pub record OpensStore (result : Result StoreState OpenError) (old new : Told) : Type 0 where
  pub opens : OpensAs old.content result
  pub kept : IfOk result (λ store. StoreIsKept store new.content)
  pub state : KeepsState old new result
  pub history : KeepsHistory old new result
  pub unwritten : IfUndone (verdict_of_opening result) (OnlyReads old new)
  -- over a content that recovers to nothing nothing is written, whatever the answer
  pub judged : ((streams : List Stream) → Recovers streams old.content → ⊥) → OnlyReads old new
  -- no more slots are used than the content uses, also in a crash
  pub within : KeepsWithin 0 result old new
  pub extent : (found : SlotMap) → StandsFor old.content found → IfOk result (λ store. store.records.journal.extent ≤ found.extent)

-- A store is surveyed: what the state has to which the content recovers, or why it recovers to none. Content and images stay.
pub record SurveysStore (result : Result Survey OpenError) (old new : Told) : Type 0 where
  pub surveys : SurveysAs old.content result
  pub reads : OnlyReads old new
