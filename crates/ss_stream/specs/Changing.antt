-- What a call that changes one stream does to its disk, and what it keeps over every disk.
use Rattle.std.specs.Prelude.{ℕ, List, Option, Result, OnOk, ℤ, ◌≡◌, ◌<◌, IsTrue, ◌∷◌, Some, ◌+◌, ◌≤◌, max, Contains, None, length}
use Rattle.ss_base.specs.declared.limits.TheConstants.{MOST_VALUES}
use Rattle.ss_outside.specs.Disk.{Told}
use Rattle.ss_outside.specs.Verdict.{Verdict, IsFirm, verdict, IfChanged}
use Rattle.ss_outside.specs.declared.source.Failed.{Failed}
use Rattle.ss_outside.specs.Crash.{OnlyReads}
use Rattle.ss_journal.specs.Kept.{IsSettled, IsSealed}
use Rattle.ss_journal.specs.declared.format.TheConstants.{MOST_SLOTS}
use Rattle.ss_records.specs.Kept.{AreKept, RecordsState, shown_by}
use Rattle.ss_line.specs.declared.entry.Entry.{Entry}
use Rattle.ss_summary.specs.Points.{New}
use Rattle.ss_summary.specs.Figures.{Figures}
use Rattle.ss_summary.specs.Summaries.{joined}
use Rattle.ss_landmarks.specs.Landmarks.{AreKnown, LandmarksState}
use Rattle.ss_targets.specs.Rule.{rule_of}
use Rattle.ss_targets.specs.Targets.{params_of}
use Rattle.ss_codec.specs.declared.record.Record.{Record}
use Rattle.ss_model.specs.State.{Stream}
use Rattle.ss_model.specs.ClosedState.{closed_stream}
use Rattle.ss_model.specs.Steps.{with_plain_value}
use Rattle.ss_model.specs.Marks.{lies_free}
use Rattle.ss_model.specs.declared.types.Window.{Window}
use Rattle.ss_parts.specs.declared.parts.StreamParts.{StreamParts}
use Rattle.ss_parts.specs.Held.{span_held, span_of, times_held, times_of, window_record, slots_held, entries_of, mark_slots, EndByLast, window_slots_of}
use Rattle.ss_parts.specs.Slots.{IsHeldIn, HasRecords}
use Rattle.ss_parts.specs.Reading.{verdict_of_read, IsRead}
use Rattle.ss_parts.specs.declared.read_error.ReadError.{ReadError}
use Rattle.ss_stream.specs.Calls.{KeepsWithin, Turns, TurnsShown}
use Rattle.ss_stream.specs.Held.{IsPartlyJoined, IsHalfway, with_single, IsOrdered, values_held}
use Rattle.ss_stream.specs.Joining.{IsJoinedIn, NoEntriesAreDue}
use Rattle.ss_stream.specs.Marking.{with_mark, CanMark, IsItsSlot, mark_refusal, landmarks_after}
use Rattle.ss_stream.specs.declared.marking.Mark.{Mark}
use Rattle.ss_stream.specs.Slots.{LiveSlotsGo}

-- What a call makes of a stream that is held, whichever it is and whatever lies beside it: what it leaves in a crash, and what
-- at Ok. Where the stream was held, no record has changed, and no more slots are used than before.
pub record TurnsStream {T E : Type 0} (v : Verdict) (part : StreamParts) (during after : List (ℕ × Option Record) → Stream → List ℕ → Type 0)
    (records : RecordsState) (result : Result T E) (old new : Told) : Type 0 where
  pub turns : (others : List (ℕ × Option Record)) (s : Stream) → Turns (IsHeldIn others part s) (during others s) (after others s) old new result
  pub firm : (others : List (ℕ × Option Record)) (s : Stream) → IsHeldIn others part s old.content → IsFirm v
  pub kept : OnOk result (AreKept records new.content)
  pub within : KeepsWithin 0 result old new

-- The same of what records show, which are others then: a crash leaves what the content stands for, or this.
pub record StagesStream {T E : Type 0} (v : Verdict) (part : StreamParts) (during after : List (ℕ × Option Record) → Stream → List ℕ → Type 0)
    (was is : RecordsState) (result : Result T E) (old new : Told) : Type 0 where
  pub turns : (others : List (ℕ × Option Record)) (s : Stream) →
      TurnsShown was is (IsHeldIn others part s) (during others s) (after others s) old new result
  pub firm : (others : List (ℕ × Option Record)) (s : Stream) → IsHeldIn others part s (shown_by was old.content) → IsFirm v

-- windows that are due were joined, and this is staged
abbrev pub JoinsWindows : StreamParts → StreamParts → RecordsState → RecordsState → Result (Unit {0}) ReadError → Told → Told → Type 0
JoinsWindows part now was is result =
    StagesStream (verdict_of_read result) part IsPartlyJoined (λ others s. IsJoinedIn others now s) was is result

-- all of them were joined, and this is staged
abbrev pub StagesJoins : StreamParts → StreamParts → RecordsState → RecordsState → Result (Unit {0}) ReadError → Told → Told → Type 0
StagesJoins part now was is result =
    StagesStream (verdict_of_read result) part IsPartlyJoined (λ others s. IsHeldIn others now (closed_stream s)) was is result

-- all of them were joined
abbrev pub ClosesStream : StreamParts → StreamParts → RecordsState → Result (Unit {0}) ReadError → Told → Told → Type 0
ClosesStream part now records result =
    TurnsStream (verdict_of_read result) part IsPartlyJoined (λ others s. IsHeldIn others now (closed_stream s)) records result

-- a value was put as a window of its own, and this is staged
abbrev pub PutsValue : StreamParts → StreamParts → ℕ → ℤ → RecordsState → RecordsState → Result (Unit {0}) ReadError → Told → Told → Type 0
PutsValue part now t v was is result =
    StagesStream (verdict_of_read result) part (λ others s. IsHalfway others part s t v) (λ others s. IsHeldIn others now (with_single s t v))
    was is result

-- a value was taken, and the windows were closed, and this is staged
abbrev pub TakesValue : StreamParts → StreamParts → ℕ → ℤ → RecordsState → RecordsState → Result (Unit {0}) ReadError → Told → Told → Type 0
TakesValue part now t v was is result =
    StagesStream (verdict_of_read result) part (λ others s. IsHalfway others part s t v) (λ others s. IsHeldIn others now (with_plain_value s (t, v, New)))
    was is result

-- landmarks took a mark, and this is staged
abbrev pub TakesMark : StreamParts → StreamParts → ℕ → Mark → RecordsState → RecordsState → Result (Unit {0}) Failed → Told → Told → Type 0
TakesMark part now t mark was is result =
    StagesStream (verdict result) part (λ others s. IsHeldIn others part s) (λ others s. IsHeldIn others now (with_mark s t mark)) was is result

-- Two windows of a stream are read as one, by records that are others then, of what they show. Content and images stay.
pub record ReadsJoined (part : StreamParts) (window next : Entry) (was is : RecordsState) (result : Result Figures ReadError) (old new : Told) : Type 0 where
  pub joined : (others : List (ℕ × Option Record)) (w v : Window) →
      HasRecords ((window.slot, Some (window_record part.id.0 w)) ∷ (next.slot, Some (window_record part.id.0 v)) ∷ others) (shown_by was old.content) →
      span_held window ≡ span_of w → span_held next ≡ span_of v → times_held window ≡ times_of w → times_held next ≡ times_of v →
      IsTrue (lies_free part.landmarks.landmarks w) → IsTrue (lies_free part.landmarks.landmarks v) →
      w.summary.t_last < v.summary.t_first → IsRead (joined w.summary v.summary) result
  pub kept : OnOk result (AreKept is new.content)
  pub reads : OnlyReads old new

-- two windows stand side by side, within the positions that there are, and all times of the second are later
pub record StandBeside (window next : Entry) : Type 0 where
  pub first : 1 ≤ window.first
  pub side_by_side : next.first ≡ window.last + 1
  pub later : window.t_last < next.t_first
  pub few : next.last ≤ MOST_VALUES

-- What the change of a stream keeps over every disk: the order of its windows, that its slots are live, and that the journal is
-- settled and uses no more slots than before and these.
pub record KeepsWhole (part now : StreamParts) (was is : RecordsState) (used : ℕ) : Type 0 where
  pub ordered : IsOrdered now
  pub live : LiveSlotsGo (slots_held part) (slots_held now) was.live is.live
  pub settled : IsSettled is.journal
  pub extent : is.journal.extent ≤ max was.journal.extent used

-- the same, and nothing is staged
pub record KeepsAtRest (part now : StreamParts) (was is : RecordsState) (used : ℕ) : Type 0 where
  pub whole : KeepsWhole part now was is used
  pub sealed : IsSealed is.journal

-- how many values the windows of a stream hold, and its last time
pub record HoldsUntil (part : StreamParts) (n : ℕ) (last : Option ℕ) : Type 0 where
  pub values : values_held (entries_of part) ≡ n
  pub last_time : part.last_time ≡ last

-- no two neighbours may be one
abbrev pub NoneAreDue : StreamParts → Type 0
NoneAreDue part = NoEntriesAreDue (rule_of (params_of part.target)) (values_held (entries_of part)) (entries_of part)

-- where the record of a slot has changed, a window of this stream is held there
abbrev pub ChangedIsHeld : Verdict → StreamParts → Type 0
ChangedIsHeld v part = IfChanged v (λ slot. Contains (window_slots_of part) slot)

-- the landmarks of a stream take a mark at a time, with this slot for its record, and have room for it
pub record CanTakeMark (records : RecordsState) (part : StreamParts) (slot t : ℕ) (mark : Mark) : Type 0 where
  pub can : CanMark part.landmarks.landmarks t mark
  pub accepted : mark_refusal part t mark ≡ None
  pub in_slot : IsItsSlot records.live part mark slot
  pub few : length (mark_slots part) < MOST_SLOTS
  pub room : 1 ≤ part.landmarks.room
  pub value_room : 1 ≤ part.landmarks.value_room
  pub ordered : IsOrdered part

-- the same stream with the same windows, perhaps with other landmarks
pub record HasSameWindows (part now : StreamParts) : Type 0 where
  pub id : now.id ≡ part.id
  pub name : now.name ≡ part.name
  pub target : now.target ≡ part.target
  pub line : now.line ≡ part.line

-- landmarks that hold the same, and have room for no less
pub record HasNoLessRoom (was now : LandmarksState) : Type 0 where
  pub landmarks : now.landmarks ≡ was.landmarks
  pub slots : now.slots ≡ was.slots
  pub value_slots : now.value_slots ≡ was.value_slots
  pub room_grows : was.room ≤ now.room
  pub value_room_grows : was.value_room ≤ now.value_room
  pub known : AreKnown now

-- the landmarks of a stream after a mark, which end by its last time
pub record HasTakenMark (part now : StreamParts) (t : ℕ) (mark : Mark) : Type 0 where
  pub landmarks : now.landmarks.landmarks ≡ landmarks_after part.landmarks.landmarks t mark
  pub known : AreKnown now.landmarks
  pub last : EndByLast now
