-- What a look at a stream tells of a query.
use Rattle.std.specs.Prelude.{◌≡◌, ℕ, ◌&&◌, nat_le, nat_lt, List, ◌∷◌, count_by, IsTrue, Option, Some, Result, Ok, Err, ⊤}
use Rattle.ss_outside.specs.Crash.{OnlyReads}
use Rattle.ss_outside.specs.Disk.{Told}
use Rattle.ss_outside.specs.Verdict.{UnlessFailed}
use Rattle.ss_records.specs.Kept.{AreKept, RecordsState, shown_by}
use Rattle.ss_catalog.specs.declared.query.Query.{Query}
use Rattle.ss_codec.specs.declared.record.Record.{Record}
use Rattle.ss_line.specs.declared.entry.At.{At}
use Rattle.ss_line.specs.declared.entry.Entry.{Entry}
use Rattle.ss_model.specs.Marks.{lies_free}
use Rattle.ss_model.specs.State.{Stream}
use Rattle.ss_model.specs.declared.types.Window.{Window}
use Rattle.ss_parts.specs.Held.{span_held, span_of, times_held, times_of, window_record}
use Rattle.ss_parts.specs.declared.parts.StreamParts.{StreamParts}
use Rattle.ss_parts.specs.Slots.{IsHeldIn, HasRecords}
use Rattle.ss_parts.specs.Reading.{verdict_of_read}
use Rattle.ss_parts.specs.declared.read_error.ReadError.{ReadError}
use Rattle.ss_parts.specs.declared.read_error.ReadError.TheVariants.{Disk, Changed}
use Rattle.ss_query.specs.Asked.{Follows, seen_after, seen_of}
use Rattle.ss_query.specs.declared.asking.Seen.{Seen}

-- how many windows begin after a time and not after another
abbrev pub begun_in : ℕ → ℕ → List (At × Entry) → ℕ
begun_in from to entries = count_by (λ (e : At × Entry). nat_lt from e.1.t_first && nat_le e.1.t_first to) entries

-- what looking tells, on a disk that tells: this is known, unless the disk fails
abbrev pub IsSeenAs : Seen → Result Seen ReadError → Type 0
IsSeenAs seen (Ok now) = now ≡ seen
IsSeenAs seen (Err Disk) = ⊤
IsSeenAs seen (Err (Changed slot)) = ⊥

-- An entry is looked at, by records that are others then, of what they show: its record is read where it has times in the range. Content and
-- images stay.
pub record SeesEntry (part : StreamParts) (query : Query) (entry : Entry) (seen : Seen) (was is : RecordsState) (result : Result Seen ReadError)
    (old new : Told) : Type 0 where
  -- what is known with the window whose record lies in the slot of the entry, where it comes next, as for reading it
  pub window : (others : List (ℕ × Option Record)) (w : Window) →
      HasRecords ((entry.slot, Some (window_record part.id.0 w)) ∷ others) (shown_by was old.content) →
      span_held entry ≡ span_of w → times_held entry ≡ times_of w → IsTrue (lies_free part.landmarks.landmarks w) → Follows seen w →
      IsSeenAs (seen_after part.landmarks.landmarks query.kind query.from query.to seen w) result
  pub kept : UnlessFailed (verdict_of_read result) (AreKept is new.content)
  pub reads : OnlyReads old new

-- A stream is looked at, by records that are others then, of what they show. Content and images stay.
pub record SeesStream (part : StreamParts) (query : Query) (was is : RecordsState) (result : Result Seen ReadError) (old new : Told) :
    Type 0 where
  -- what is known of the stream, whatever lies beside it
  pub seen : (others : List (ℕ × Option Record)) (s : Stream) → IsHeldIn others part s (shown_by was old.content) →
      IsSeenAs (seen_of query.kind query.from query.to s) result
  pub kept : UnlessFailed (verdict_of_read result) (AreKept is new.content)
  pub reads : OnlyReads old new
