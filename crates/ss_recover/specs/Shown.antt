-- What is held of a stream whose records come, and what a walk over the records of one stream after another answers.
use Rattle.std.specs.Prelude.{◌≡◌, ℕ, ℤ, ◌+◌, ◌<◌, ◌≤◌, Bool, true, false, ◌==◌, nat_lt, if◌then◌else◌, List, [], ◌∷◌, ◌++◌}
use Rattle.std.specs.Prelude.{length, map, filter, suc}
use Rattle.std.specs.Prelude.{IfSome, Option, Some, None, Result, Ok, Err, ⊤}
use Rattle.std.specs.List.Sorted.{IsPermutation}
use Rattle.ss_catalog.specs.declared.stream_id.StreamId.{StreamId}
use Rattle.ss_catalog.specs.Params.{step_number}
use Rattle.ss_codec.specs.declared.record.Record.{Record}
use Rattle.ss_codec.specs.declared.record.Record.TheVariants as records
use Rattle.ss_landmarks.specs.Landmark.{Landmark, change_last, closed_at, opened_at, with_value}
use Rattle.ss_landmarks.specs.Landmarks.{AreKnown}
use Rattle.ss_landmarks.specs.Order.{CanClose, CanOpen, CanTake}
use Rattle.ss_landmarks.specs.declared.landmarks.TheConstants.{MOST_LANDMARK_SLOTS}
use Rattle.ss_base.specs.declared.limits.TheConstants.{LAST_TIME}
use Rattle.ss_line.specs.Line.{LineState}
use Rattle.ss_line.specs.declared.entry.At.{At}
use Rattle.ss_line.specs.declared.entry.Entry.{Entry}
use Rattle.ss_summary.specs.Figures.{IsPossible}
use Rattle.ss_base.specs.declared.limits.TheConstants.{MOST_VALUES}
use Rattle.ss_targets.specs.Targets.{params_of}
use Rattle.ss_model.specs.Marks.{later, latest_of}
use Rattle.ss_model.specs.State.{Created}
use Rattle.ss_model.specs.Windows.{newest_time}
use Rattle.ss_model.specs.declared.types.Window.{Window}
use Rattle.ss_parts.specs.Held.{span_held, span_of, times_held, times_of}
use Rattle.ss_recover.specs.Marked.{landmarks_made}
use Rattle.ss_recover.specs.Order.{Rises, stream_of}
use Rattle.ss_recover.specs.Runs.{has_sound_values_within, is_run, marks_in, may_stand, windows_in}
use Rattle.ss_recover.specs.Usable.{slots_found, without_slots}
use Rattle.ss_recover.specs.declared.found.Found.{Found}
use Rattle.ss_recover.specs.declared.parts.Parts.{Parts}
use Rattle.ss_parts.specs.declared.parts.StreamParts.{StreamParts}
use Rattle.ss_recover.specs.declared.marking.Marks.{Marks}
use Rattle.ss_recover.specs.declared.windows.Windows.{Windows}
use Rattle.ss_recover.specs.declared.walking.Walk.{Walk}
use Rattle.ss_recover.specs.declared.recover_error.RecoverError.{RecoverError}
use Rattle.ss_recover.specs.declared.recover_error.RecoverError.TheVariants.{BadSlot, BadStream, Disk, OutOfMemory}

-- ---- what is held

-- which record was found
abbrev pub is_landmark : Record → Bool
is_landmark (records.Landmark id number values start finish) = true
is_landmark _ = false

abbrev pub is_value : Record → Bool
is_value (records.Value id number index t v) = true
is_value _ = false

abbrev pub is_window : Record → Bool
is_window (records.Window id first summary) = true
is_window _ = false

abbrev pub found_by : (Record → Bool) → List Found → List Found
found_by p all = filter (λ (f : Found). p f.holds) all

-- Windows and landmarks are held in the slots of their records.
pub record AreInSlots (line : LineState) (landmarks values : List ℕ) (number : ℕ) (own : List Found) : Type 0 where
  pub positions : map span_held (map (λ (e : At × Entry). e.1) line.entries) ≡ map span_of (windows_in number (without_slots own))
  pub times : map times_held (map (λ (e : At × Entry). e.1) line.entries) ≡ map times_of (windows_in number (without_slots own))
  pub entries : map (λ (e : Entry). e.slot) (map (λ (e : At × Entry). e.1) line.entries) ≡ slots_found (found_by is_window own)
  pub slots : landmarks ≡ slots_found (found_by is_landmark own)
  pub value_slots : values ≡ slots_found (found_by is_value own)

-- What is held of landmarks while their records come: those so far, without the closing of the last one, the slots of their records
-- and of those of their values, when the last one closes, if it is to, and their latest time, with this closing.
pub record MarksShown : Type 0 where
  pub landmarks : List Landmark
  pub slots : List ℕ
  pub value_slots : List ℕ
  pub finish : Option ℕ
  pub latest : Option ℕ

abbrev pub marks_shown : Marks → MarksShown
marks_shown marks = record {
  landmarks = marks.landmarks.landmarks;
  slots = marks.landmarks.slots;
  value_slots = marks.landmarks.value_slots;
  finish = marks.finish;
  latest = marks.latest;
}

-- the last one may close when it is to, and then these are held
abbrev pub MayClose : MarksShown → Type 0
MayClose s = IfSome s.finish (λ t. (t ≤ LAST_TIME) × CanClose s.landmarks t)

abbrev pub with_closing : Option ℕ → List Landmark → List Landmark
with_closing None landmarks = landmarks
with_closing (Some finish) landmarks = change_last (closed_at finish) landmarks

abbrev pub all_closed : MarksShown → MarksShown
all_closed s = record {
  landmarks = with_closing s.finish s.landmarks;
  slots = s.slots;
  value_slots = s.value_slots;
  finish = s.finish;
  latest = s.latest;
}

-- the next one opens once it has closed, and it takes a value
abbrev pub with_landmark : MarksShown → ℕ → ℕ → Option ℕ → MarksShown
with_landmark s slot start finish = record {
  landmarks = with_closing s.finish s.landmarks ++ opened_at start ∷ [];
  slots = s.slots ++ slot ∷ [];
  value_slots = s.value_slots;
  finish = finish;
  latest = later s.latest (later (Some start) finish);
}

abbrev pub with_mark_value : MarksShown → ℕ → ℕ → ℤ → MarksShown
with_mark_value s slot t v = record {
  landmarks = change_last (with_value (record { t = t; v = v })) s.landmarks;
  slots = s.slots;
  value_slots = s.value_slots ++ slot ∷ [];
  finish = s.finish;
  latest = later s.latest (Some t);
}

-- a record comes, where it may and there is room for one more of each
abbrev pub with_found : MarksShown → ℕ → Record → MarksShown
with_found s slot (records.Landmark id number values start finish) = with_landmark s slot start finish
with_found s slot (records.Value id number index t v) = with_mark_value s slot t v
with_found s slot _ = s

abbrev pub MayCome : MarksShown → Record → Type 0
MayCome s (records.Landmark id number values start finish) = MayClose s × CanOpen (with_closing s.finish s.landmarks) start
MayCome s (records.Value id number index t v) = CanTake s.landmarks t
MayCome s _ = ⊤

pub record HasMarkRoom (s : MarksShown) : Type 0 where
  pub slots : length s.slots < MOST_LANDMARK_SLOTS
  pub value_slots : length s.value_slots < MOST_LANDMARK_SLOTS

-- They are those that the records of a number make, with their latest time.
pub record AreMade (number : ℕ) (own : List Found) (s : MarksShown) : Type 0 where
  pub landmarks : s.landmarks ≡ landmarks_made (marks_in number (without_slots own))
  pub latest : s.latest ≡ latest_of s.landmarks
  pub slots : s.slots ≡ slots_found (found_by is_landmark own)
  pub value_slots : s.value_slots ≡ slots_found (found_by is_value own)

-- a time is after the last one, if there is one
abbrev pub is_after : Option ℕ → ℕ → Bool
is_after None t = true
is_after (Some last) t = nat_lt last t

-- a window has possible figures and positions that a stream can have
abbrev pub IsInside : Window → Type 0
IsInside w = (1 ≤ w.first) × (w.first + w.summary.count ≤ MOST_VALUES + 1) × IsPossible w.summary

-- The windows of a number are held in the slots of their records.
pub record AreWindowsOf (number : ℕ) (own : List Found) (windows : Windows) : Type 0 where
  pub positions : map span_held (map (λ (e : At × Entry). e.1) windows.line.entries) ≡ map span_of (windows_in number (without_slots own))
  pub times : map times_held (map (λ (e : At × Entry). e.1) windows.line.entries) ≡ map times_of (windows_in number (without_slots own))
  pub entries : map (λ (e : Entry). e.slot) (map (λ (e : At × Entry). e.1) windows.line.entries) ≡ slots_found (found_by is_window own)
  pub newest : windows.newest ≡ newest_time (windows_in number (without_slots own))

-- ---- what is answered

-- a line has one more window
pub record Grows (old new : Windows) (slot : ℕ) (w : Window) : Type 0 where
  pub at : At
  pub entry : Entry
  pub entries : new.line.entries ≡ old.line.entries ++ (at, entry) ∷ []
  pub span : span_held entry ≡ span_of w
  pub times : times_held entry ≡ times_of w
  pub in_slot : entry.slot ≡ slot
  pub newest : new.newest ≡ Some w.summary.t_last

-- What is held of a stream whose own record lies in this slot: its other records are held, and end as they may.
pub record IsHeldOf (part : StreamParts) (slot : ℕ) (head : Created) (rest : List Found) : Type 0 where
  pub id : part.id.0 ≡ head.number
  pub name : part.name ≡ head.name
  pub params : params_of part.target ≡ head.params
  pub in_slot : part.slot ≡ slot
  pub last_time : part.last_time ≡ later (newest_time (windows_in head.number (without_slots rest))) (latest_of part.landmarks.landmarks)
  pub landmarks : part.landmarks.landmarks ≡ landmarks_made (marks_in head.number (without_slots rest))
  pub known : AreKnown part.landmarks
  pub kept : AreInSlots part.line part.landmarks.slots part.landmarks.value_slots head.number rest

-- it is built, or its windows or its landmarks break a condition
abbrev pub BuildsAs : Created → ℕ → List Found → Result (Option StreamParts) RecoverError → Type 0
BuildsAs head slot rest (Ok (Some part)) =
    (has_sound_values_within (step_number head.params.within) (without_slots rest) head.number ≡ true) × IsHeldOf part slot head rest
BuildsAs head slot rest (Ok None) = has_sound_values_within (step_number head.params.within) (without_slots rest) head.number ≡ false
BuildsAs head slot rest (Err error) = error ≡ OutOfMemory

-- the names of streams
abbrev pub names_in : List (List ℕ × StreamId) → List (List ℕ)
names_in names = map (λ n. n.0) names

-- a name is taken for a stream, or none of this name may be added
abbrev pub AddsName : List (List ℕ × StreamId) → List (List ℕ × StreamId) → List ℕ → Result Bool RecoverError → Type 0
AddsName old new name (Ok true) = (may_stand (names_in old) name ≡ true) × (names_in new ≡ names_in old ++ name ∷ [])
AddsName old new name (Ok false) = may_stand (names_in old) name ≡ false
AddsName old new name (Err error) = error ≡ OutOfMemory

-- ---- a walk

-- no record came yet
pub record HasNothing (walk : Walk) : Type 0 where
  pub names : walk.names ≡ []
  pub done : walk.done.items ≡ []
  pub others : walk.others.items ≡ []
  pub heads : walk.heads.items ≡ []

-- a walk has more: names, streams that stand, and the slots of dropped ones' records, their own apart
pub record HasMore (old new : Walk) (taken : List (List ℕ)) (parts : List StreamParts) (slots own_slots : List ℕ) : Type 0 where
  pub names : names_in new.names ≡ names_in old.names ++ taken
  pub done : new.done.items ≡ old.done.items ++ parts
  pub others : new.others.items ≡ old.others.items ++ slots
  pub heads : new.heads.items ≡ old.heads.items ++ own_slots

-- a stream's own record and the others are taken: one that stands is held, and a dropped one's slots are kept
abbrev pub TakesStream : Walk → Walk → ℕ → Record → List Found → Type 0
TakesStream old new slot (records.Stream id name params true) rest = HasMore old new (name ∷ []) [] (slots_found rest) (slot ∷ [])
TakesStream old new slot (records.Stream id name params false) rest =
    (part : StreamParts) × IsHeldOf part slot (record { number = id; name = name; params = params }) rest
    × HasMore old new (name ∷ []) (part ∷ []) [] []
TakesStream old new slot _ rest = ⊥

-- what the records of one number answer, the first of them and the others
abbrev pub TakesAs : Walk → Walk → ℕ → Found → List Found → Result ⊤ RecoverError → Type 0
TakesAs old new id f rest (Ok done) =
    (is_run (names_in old.names) (without_slots (f ∷ rest)) ≡ true) × TakesStream old new f.slot f.holds rest
TakesAs old new id f rest (Err (BadStream n)) = (n ≡ id) × (is_run (names_in old.names) (without_slots (f ∷ rest)) ≡ false)
TakesAs old new id f rest (Err OutOfMemory) = ⊤
TakesAs old new id f rest (Err (BadSlot n)) = ⊥
TakesAs old new id f rest (Err Disk) = ⊥

-- all records came: the slots, each kind in order, the streams' own last
pub record EndsWalk (walk : Walk) (parts : Parts) : Type 0 where
  pub streams : parts.streams.items ≡ walk.done.items
  pub others : List ℕ
  pub heads : List ℕ
  pub doomed : parts.doomed.items ≡ others ++ heads
  pub others_rise : Rises (λ slot. slot) others
  pub heads_rise : Rises (λ slot. slot) heads
  pub of_others : IsPermutation others walk.others.items
  pub of_heads : IsPermutation heads walk.heads.items

-- the number of a record that was found, and how many of the first records are of a number
abbrev pub found_number : Found → ℕ
found_number f = stream_of f.holds

abbrev pub run_len : ℕ → List Found → ℕ
run_len n [] = 0
run_len n (f ∷ fs) = if found_number f == n then suc (run_len n fs) else 0
