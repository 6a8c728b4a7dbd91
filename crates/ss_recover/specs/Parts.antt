-- The streams that the records of a map carry, or the lowest place that is damaged.
use Rattle.std.specs.Prelude.{ℕ, not, min, List, [], ◌∷◌, map, filter, fold, Option, Some, None, is_none}
use Rattle.std.specs.List.{filter_map, position}
use Rattle.ss_journal.specs.Redo.{SlotMap}
use Rattle.ss_codec.specs.declared.record.Record.{Record}
use Rattle.ss_model.specs.State.{Created, Stream}
use Rattle.ss_recover.specs.Carried.{spelled, stream_number, in_order, marks_carried, streams_standing, windows_carried}
use Rattle.ss_recover.specs.Conditions.{is_sound}
use Rattle.ss_recover.specs.Marked.{landmarks_made}

-- what the records of a map are
pub data Carried : Type 0 where
  bad_slot : ℕ → Carried
  bad_stream : ℕ → Carried
  carries : List Stream → Carried

-- the records of slots that spell one
abbrev pub records_in : List (Option Record) → List Record
records_in slots = filter_map (λ r. r) slots

-- the lowest slot that spells no valid record
abbrev pub lowest_bad_slot : List (Option Record) → Option ℕ
lowest_bad_slot slots = position is_none slots

-- the least of some numbers
abbrev pub lowest_in : List ℕ → Option ℕ
lowest_in [] = None
lowest_in (n ∷ ns) = Some (fold min n ns)

-- the lowest number that some record has and whose records break a condition
abbrev pub lowest_bad_stream : List Record → Option ℕ
lowest_bad_stream records = lowest_in (filter (λ number. not (is_sound records number)) (filter_map stream_number records))

-- a stream with the windows and the landmarks that records have of it
abbrev pub stream_carried : List Record → Created → Stream
stream_carried records s = record {
  number = s.number;
  name = s.name;
  params = s.params;
  windows = windows_carried s.number records;
  landmarks = landmarks_made (marks_carried s.number records);
}

-- the streams that records have and that aren't dropped, in the order of their numbers
abbrev pub streams_carried : List Record → List Stream
streams_carried records = map (stream_carried records) (in_order (λ s. s.number) (streams_standing records))

-- a damaged slot is told before a damaged stream
abbrev pub judged : Option ℕ → Option ℕ → List Stream → Carried
judged (Some slot) stream streams = bad_slot slot
judged None (Some number) streams = bad_stream number
judged None None streams = carries streams

-- what the records of a map are: the lowest damaged slot, or else the lowest damaged stream, or else the streams
unfoldable pub carried : SlotMap → Carried
carried found =
    let records = records_in (spelled found) in
    judged (lowest_bad_slot (spelled found)) (lowest_bad_stream records) (streams_carried records)
