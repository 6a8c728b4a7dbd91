-- What reading a window again answers and leaves.
use Rattle.std.specs.Prelude.{◌≡◌, ℕ, ◌+◌, List, ◌∷◌, IsTrue, Option, Some, Result, Ok, Err, ⊤}
use Rattle.ss_outside.specs.Crash.{OnlyReads}
use Rattle.ss_outside.specs.Disk.{Told}
use Rattle.ss_outside.specs.Verdict as verdicts
use Rattle.ss_outside.specs.Verdict.{Verdict, OnFailed, UnlessFailed}
use Rattle.ss_journal.specs.Kept.{HasStopped}
use Rattle.ss_records.specs.Kept.{AreKept, RecordsState, shown_by}
use Rattle.ss_codec.specs.declared.record.Record.{Record}
use Rattle.ss_line.specs.declared.entry.Entry.{Entry}
use Rattle.ss_summary.specs.Figures.{Figures}
use Rattle.ss_model.specs.Marks.{lies_free}
use Rattle.ss_model.specs.declared.types.Window.{Window}
use Rattle.ss_parts.specs.Held.{span_held, span_of, times_held, times_of, window_record}
use Rattle.ss_parts.specs.declared.parts.StreamParts.{StreamParts}
use Rattle.ss_parts.specs.Slots.{HasRecords}
use Rattle.ss_parts.specs.declared.read_error.ReadError.{ReadError}
use Rattle.ss_parts.specs.declared.read_error.ReadError.TheVariants.{Disk, Changed}

-- the verdict of reading
abbrev pub verdict_of_read : {T : Type 0} → Result T ReadError → Verdict
verdict_of_read (Ok value) = verdicts.fine
verdict_of_read (Err Disk) = verdicts.failed
verdict_of_read (Err (Changed slot)) = verdicts.changed slot

-- what reading a window of this summary answers, on a disk that tells: the summary, unless the disk fails
abbrev pub IsRead : Figures → Result Figures ReadError → Type 0
IsRead summary (Ok read) = read ≡ summary
IsRead summary (Err Disk) = ⊤
IsRead summary (Err (Changed slot)) = ⊥

-- a summary is one of a window with the positions and the times of an entry, which lies among the landmarks as a window has to
pub record IsWindowOf (part : StreamParts) (entry : Entry) (summary : Figures) : Type 0 where
  pub count : entry.first + summary.count ≡ entry.last + 1
  pub times : times_held entry ≡ (summary.t_first, summary.t_last)
  pub free : IsTrue (lies_free part.landmarks.landmarks (record { first = entry.first; summary = summary }))

-- A window is read, by records that are others then, of what they show. Content and images stay.
pub record ReadsWindow (part : StreamParts) (entry : Entry) (was is : RecordsState) (result : Result Figures ReadError) (old new : Told) :
    Type 0 where
  -- that of the stream whose record lies in the slot of the entry, where it has the positions and the times of the entry and
  -- lies free
  pub window : (others : List (ℕ × Option Record)) (w : Window) →
      HasRecords ((entry.slot, Some (window_record part.id.0 w)) ∷ others) (shown_by was old.content) →
      span_held entry ≡ span_of w → times_held entry ≡ times_of w → IsTrue (lies_free part.landmarks.landmarks w) → IsRead w.summary result
  pub kept : UnlessFailed (verdict_of_read result) (AreKept is new.content)
  pub reads : OnlyReads old new

-- What reading leaves of the records: all, unless the disk failed, and at any answer which slots are live.
pub record KeepsRecords (v : Verdict) (old new : RecordsState) : Type 0 where
  pub journal : UnlessFailed v (new.journal ≡ old.journal)
  pub live : new.live ≡ old.live
  pub stopped : OnFailed v (HasStopped new.journal)
