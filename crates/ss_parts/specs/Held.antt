-- Streams as they are held in memory, with the slot of each record.
use Rattle.std.specs.Prelude.{◌≡◌, ◌≢◌, ℕ, ◌+◌, ◌<◌, ◌≤◌, Bool, false, not, List, [], ◌∷◌, length, map, filter, flat_map, zip, All, Option, Some, MatchOption}
use Rattle.std.specs.Prelude.{◌++◌, ⊤}
use Rattle.std.specs.Option.{option_map_or}
use Rattle.std.specs.List.{range_with_len, IsDistinct}
use Rattle.std.specs.List.Sorted.{IsPermutation, IsStrictlyIncreasing}
use Rattle.ss_journal.specs.Redo.{SlotMap}
use Rattle.ss_journal.specs.declared.format.TheConstants.{MOST_SLOTS}
use Rattle.ss_base.specs.declared.limits.TheConstants.{SLOT_SIZE}
use Rattle.ss_journal.specs.declared.put.Put.{Put}
use Rattle.ss_records.specs.Live.{is_live, are_zeros}
use Rattle.ss_catalog.specs.Names.{same_name}
use Rattle.ss_catalog.specs.declared.TheConstants.{MOST_STREAMS}
use Rattle.ss_codec.specs.Decoded.{decoded}
use Rattle.ss_codec.specs.Record.{Spells}
use Rattle.ss_codec.specs.declared.record.Record.{Record}
use Rattle.ss_codec.specs.declared.record.Record.TheVariants as records
use Rattle.ss_landmarks.specs.Landmark.{Landmark, LandmarkValue}
use Rattle.ss_landmarks.specs.Landmarks.{AreKnown}
use Rattle.ss_landmarks.specs.Order.{AllEndBy}
use Rattle.ss_line.specs.declared.entry.Entry.{Entry}
use Rattle.ss_targets.specs.Targets.{params_of}
use Rattle.ss_base.specs.declared.limits.TheConstants.{MOST_VALUES}
use Rattle.ss_model.specs.Closed.{last_position}
use Rattle.ss_model.specs.Standing.{IsState}
use Rattle.ss_model.specs.State.{Stream, last_time}
use Rattle.ss_model.specs.declared.types.Window.{Window}
use Rattle.ss_parts.specs.declared.parts.StreamParts.{StreamParts}

-- the entries of a stream's line, oldest first
abbrev pub entries_of : StreamParts → List Entry
entries_of part = map (λ e. e.1) part.line.entries

-- the positions of the first and the last value, of an entry and of a window
abbrev pub span_held : Entry → ℕ × ℕ
span_held e = (e.first, e.last)

abbrev pub span_of : Window → ℕ × ℕ
span_of w = (w.first, last_position w)

-- and their times
abbrev pub times_held : Entry → ℕ × ℕ
times_held e = (e.t_first, e.t_last)

abbrev pub times_of : Window → ℕ × ℕ
times_of w = (w.summary.t_first, w.summary.t_last)

-- What is held agrees with a stream: its number, name and parameters, the positions and the times of each of its windows, its
-- landmarks with their values, and its last time. The other figures of the windows are in their records alone.
pub record Agrees (part : StreamParts) (s : Stream) : Type 0 where
  pub number : part.id.0 ≡ s.number
  pub name : part.name ≡ s.name
  pub params : params_of part.target ≡ s.params
  pub positions : map span_held (entries_of part) ≡ map span_of s.windows
  pub times : map times_held (entries_of part) ≡ map times_of s.windows
  pub landmarks : part.landmarks.landmarks ≡ s.landmarks
  pub known : AreKnown part.landmarks
  pub last_time : part.last_time ≡ last_time s

-- the same of each, in order
abbrev pub AllAgree : List StreamParts → List Stream → Type 0
AllAgree [] [] = ⊤
AllAgree [] (s ∷ ss) = ⊥
AllAgree (part ∷ parts) [] = ⊥
AllAgree (part ∷ parts) (s ∷ ss) = Agrees part s × AllAgree parts ss

-- the record of a stream, and of a window of the stream with a number
abbrev pub stream_record : Stream → Record
stream_record s = records.Stream s.number s.name s.params false

abbrev pub window_record : ℕ → Window → Record
window_record number w = records.Window number w.first w.summary

-- the record of the landmark with a number, in the stream with a number. While it is open it says no number of values.
abbrev pub values_said : Landmark → ℕ
values_said l = option_map_or (λ finish. length l.values) l.finish 0

abbrev pub landmark_record : ℕ → ℕ → Landmark → Record
landmark_record number n l = records.Landmark number n (values_said l) l.start l.finish

-- the records of landmarks, numbered from here on
abbrev pub landmark_records : ℕ → ℕ → List Landmark → List Record
landmark_records number n [] = []
landmark_records number n (l ∷ ls) = landmark_record number n l ∷ landmark_records number (n + 1) ls

-- the records of the values of the landmark with a number, with indexes from here on
abbrev pub value_records : ℕ → ℕ → ℕ → List LandmarkValue → List Record
value_records number n index [] = []
value_records number n index (value ∷ values) =
    records.Value number n index value.t value.v ∷ value_records number n (index + 1) values

-- the records of the values of landmarks, these numbered from here on
abbrev pub all_value_records : ℕ → ℕ → List Landmark → List Record
all_value_records number n [] = []
all_value_records number n (l ∷ ls) = value_records number n 1 l.values ++ all_value_records number (n + 1) ls

-- records in these slots, one after the other
abbrev pub in_slots : List ℕ → List Record → List (ℕ × Option Record)
in_slots slots held = zip slots (map Some held)

-- the records of a stream, each with the slot where it is held: its own and those of its windows; those of its landmarks and of the
-- values of these; and all of them
abbrev pub windows_held : StreamParts × Stream → List (ℕ × Option Record)
windows_held p =
    (p.0.slot, Some (stream_record p.1))
    ∷ zip (map (λ (e : Entry). e.slot) (entries_of p.0)) (map (λ w. Some (window_record p.1.number w)) p.1.windows)

abbrev pub marks_held : StreamParts × Stream → List (ℕ × Option Record)
marks_held p =
    in_slots p.0.landmarks.slots (landmark_records p.1.number 1 p.1.landmarks)
    ++ in_slots p.0.landmarks.value_slots (all_value_records p.1.number 1 p.1.landmarks)

abbrev pub records_held : StreamParts × Stream → List (ℕ × Option Record)
records_held p = windows_held p ++ marks_held p

-- the slots of a map that aren't zeros, in order, each with the record that it spells, if it spells one
abbrev pub occupied : SlotMap → List (ℕ × Option Record)
occupied found =
    map (λ slot. (slot, decoded (found.bytes slot)))
    (filter (λ slot. not (are_zeros (found.bytes slot))) (range_with_len 0 found.extent))

-- a map as an image has it: no more slots than a file can have, and each of as many bytes as a slot has
pub record HasWholeSlots (found : SlotMap) : Type 0 where
  pub few : found.extent ≤ MOST_SLOTS
  pub whole : (slot : ℕ) → slot < MOST_SLOTS → length (found.bytes slot) ≡ SLOT_SIZE

-- a put of a record
pub record IsRecord (put : Put) (r : Record) : Type 0 where
  pub spelled : Spells put.bytes r
  pub some : r ≢ records.Free

-- What is held stands for the streams of a map, beside records of dropped streams: it agrees with each of them, in order, and
-- the slots that aren't zeros are those of their records, each in the slot where it is held, and the others.
pub record AreHeldBeside (doomed : List (ℕ × Option Record)) (parts : List StreamParts) (streams : List Stream) (found : SlotMap) : Type 0 where
  pub each : AllAgree parts streams
  pub records : IsPermutation (doomed ++ flat_map records_held (zip parts streams)) (occupied found)
  pub state : IsState streams

-- the same, and no stream was dropped
abbrev pub AreHeld : List StreamParts → List Stream → SlotMap → Type 0
AreHeld = AreHeldBeside []

-- entries hold each position from this one on, and none past the last that a stream can have
abbrev pub TileFrom : ℕ → List Entry → Type 0
TileFrom first [] = ⊤
TileFrom first (e ∷ es) = (e.first ≡ first) × (e.first ≤ e.last) × (e.last ≤ MOST_VALUES) × TileFrom (e.last + 1) es

-- times of entries rise, each within its window too, from this one to the last
abbrev pub TimesRise : ℕ → ℕ → List Entry → Type 0
TimesRise from last [] = ⊤
TimesRise from last (e ∷ es) = (from ≤ e.t_first) × (e.t_first ≤ e.t_last) × (e.t_last ≤ last) × TimesRise (e.t_last + 1) last es

-- the times of a stream's windows rise up to the last time of their stream
abbrev pub RiseToLast : StreamParts → Type 0
RiseToLast part = MatchOption part.last_time (entries_of part ≡ []) (λ last. TimesRise 0 last (entries_of part))

-- the slots of a stream's records: of its own and those of its windows; of its landmarks and their values; and all of them
abbrev pub window_slots : StreamParts → List ℕ
window_slots part = part.slot ∷ map (λ (e : Entry). e.slot) (entries_of part)

abbrev pub mark_slots : StreamParts → List ℕ
mark_slots part = part.landmarks.slots ++ part.landmarks.value_slots

abbrev pub slots_held : StreamParts → List ℕ
slots_held part = window_slots part ++ mark_slots part

-- no time of the landmarks is after the last time of their stream
abbrev pub EndByLast : StreamParts → Type 0
EndByLast part = MatchOption part.last_time (part.landmarks.landmarks ≡ []) (λ last. AllEndBy last part.landmarks.landmarks)

-- What is true of what is held over every disk, whatever it tells: numbers rise, names differ, the windows of each stream
-- hold its positions, their times rise to its last time, its landmarks end by it, and the slots, with those of dropped streams,
-- are those that are live, each once.
pub record AreWholeBeside (doomed : List ℕ) (parts : List StreamParts) (live : List Bool) : Type 0 where
  pub few : length parts ≤ MOST_STREAMS
  pub numbers : IsStrictlyIncreasing (map (λ (part : StreamParts). part.id.0) parts)
  pub names : IsDistinct same_name (map (λ (part : StreamParts). part.name) parts)
  pub tiles : All (λ part. TileFrom 1 (entries_of part)) parts
  pub times : All RiseToLast parts
  pub landmarks : All (λ part. AreKnown part.landmarks × EndByLast part) parts
  pub slots : IsPermutation (doomed ++ flat_map slots_held parts) (filter (is_live live) (range_with_len 0 (length live)))

-- the same, and no stream was dropped
abbrev pub AreWhole : List StreamParts → List Bool → Type 0
AreWhole = AreWholeBeside []

-- the slots of a stream's windows, oldest first
abbrev pub window_slots_of : StreamParts → List ℕ
window_slots_of part = map (λ (e : Entry). e.slot) (entries_of part)
