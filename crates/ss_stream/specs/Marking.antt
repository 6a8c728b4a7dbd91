-- What a landmark takes: which event that is, what it makes of a stream, and which record it puts.
use Rattle.std.specs.Prelude.{◌≡◌, ℕ, ◌+◌, Bool, FitsSigned, List, [], ◌∷◌, ◌++◌, length, Option, Some, None, MatchOption, ⊤}
use Rattle.std.specs.Int.{w64}
use Rattle.std.specs.Option.{option_map_or}
use Rattle.ss_catalog.specs.declared.event.Event.{Event}
use Rattle.ss_catalog.specs.declared.event.Event.TheVariants as events
use Rattle.ss_catalog.specs.declared.refusal.Refusal.{Refusal}
use Rattle.ss_catalog.specs.declared.refusal.Refusal.TheVariants as refusal
use Rattle.ss_codec.specs.declared.record.Record.{Record}
use Rattle.ss_codec.specs.declared.record.Record.TheVariants as records
use Rattle.ss_landmarks.specs.Landmark.{Landmark, open_landmark}
use Rattle.ss_landmarks.specs.Landmarks.{opened}
use Rattle.ss_landmarks.specs.Order.{CanClose, CanOpen, CanTake}
use Rattle.ss_records.specs.Live.{lowest_free}
use Rattle.ss_model.specs.Marks.{with_closed, with_marked, with_opened}
use Rattle.ss_model.specs.Refusals.{first_that_applies, refusals}
use Rattle.ss_model.specs.State.{Stream}
use Rattle.ss_parts.specs.declared.parts.StreamParts.{StreamParts}
use Rattle.ss_stream.specs.Held.{outline_held}
use Rattle.ss_stream.specs.declared.marking.Mark.{Mark}
use Rattle.ss_stream.specs.declared.marking.Mark.TheVariants.{Open, Value, Close}

-- the event of a stream at a time
abbrev pub event_of : List ℕ → ℕ → Mark → Event
event_of name t Open = events.Open name t
event_of name t (Value v) = events.Value name t v
event_of name t Close = events.Close name t

-- the landmarks after it
abbrev pub landmarks_after : List Landmark → ℕ → Mark → List Landmark
landmarks_after landmarks t Open = with_opened landmarks t
landmarks_after landmarks t (Value v) = with_marked landmarks t v
landmarks_after landmarks t Close = with_closed landmarks t

-- a stream after it
abbrev pub with_mark : Stream → ℕ → Mark → Stream
with_mark s t mark = record s { landmarks = landmarks_after s.landmarks t mark }

-- a value is the open landmark's
abbrev pub IsInOpen : Mark → Type 0
IsInOpen Open = ⊥
IsInOpen (Value v) = ⊤
IsInOpen Close = ⊥

-- a value is of 64 bits
abbrev pub FitsMark : Mark → Type 0
FitsMark Open = ⊤
FitsMark (Value v) = FitsSigned w64 v
FitsMark Close = ⊤

-- it closes the open landmark
abbrev pub IsClosing : Mark → Type 0
IsClosing Open = ⊥
IsClosing (Value v) = ⊥
IsClosing Close = ⊤

-- why a stream doesn't take it at a time, where it doesn't, by what is held of it alone: no test of such an event reads the numbers of
-- streams, and where no record stands there is room for one
abbrev pub mark_refusal : StreamParts → ℕ → Mark → Option Refusal
mark_refusal part t mark = first_that_applies (refusals (Some (outline_held part)) [] 0 (event_of part.name t mark))

-- why no slot is free for the record that it puts, where that needs one and all slots are taken
abbrev pub slot_refusal : Mark → Bool → Option Refusal
slot_refusal Open full = first_that_applies ((full, refusal.StoreFull) ∷ [])
slot_refusal (Value v) full = first_that_applies ((full, refusal.StoreFull) ∷ [])
slot_refusal Close full = None

-- it may come at a time, over every disk
abbrev pub CanMark : List Landmark → ℕ → Mark → Type 0
CanMark landmarks t Open = CanOpen landmarks t
CanMark landmarks t (Value v) = CanTake landmarks t
CanMark landmarks t Close = CanClose landmarks t

-- how many values the open landmark has, and when it opened
abbrev pub values_open : List Landmark → ℕ
values_open landmarks = option_map_or (λ (l : Landmark). length l.values) (open_landmark landmarks) 0

abbrev pub start_open : List Landmark → ℕ
start_open landmarks = option_map_or (λ (l : Landmark). l.start) (open_landmark landmarks) 0

-- the record that it puts: that of a new landmark or a new value, or that of the open landmark, closed
abbrev pub mark_record : StreamParts → ℕ → Mark → Record
mark_record part t Open = records.Landmark part.id.0 (length part.landmarks.landmarks + 1) 0 t None
mark_record part t (Value v) =
    records.Value part.id.0 (length part.landmarks.landmarks) (values_open part.landmarks.landmarks + 1) t v
mark_record part t Close =
    records.Landmark part.id.0 (length part.landmarks.landmarks) (values_open part.landmarks.landmarks)
    (start_open part.landmarks.landmarks) (Some t)

-- where it puts it: in the lowest free slot, or in that of the open landmark
abbrev pub IsItsSlot : List Bool → StreamParts → Mark → ℕ → Type 0
IsItsSlot live part Open slot = lowest_free live ≡ Some slot
IsItsSlot live part (Value v) slot = lowest_free live ≡ Some slot
IsItsSlot live part Close slot = MatchOption (opened part.landmarks) ⊥ (λ o. o.1 ≡ slot)

-- how many slots are used at least, up to that of its record, where the record is a new one
abbrev pub slots_used : Mark → ℕ → ℕ
slots_used Open slot = slot + 1
slots_used (Value v) slot = slot + 1
slots_used Close slot = 0

-- the slots of the landmarks and of their values after it
abbrev pub slots_after : List ℕ → ℕ → Mark → List ℕ
slots_after slots slot Open = slots ++ slot ∷ []
slots_after slots slot (Value v) = slots
slots_after slots slot Close = slots

abbrev pub value_slots_after : List ℕ → ℕ → Mark → List ℕ
value_slots_after slots slot Open = slots
value_slots_after slots slot (Value v) = slots ++ slot ∷ []
value_slots_after slots slot Close = slots
