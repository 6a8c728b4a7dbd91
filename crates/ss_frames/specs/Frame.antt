-- Frames: which there are, how each is spelled in 64 bytes, and which frame some bytes spell.
use Rattle.std.specs.Prelude.{◌≡◌, ℕ, ◌^◌, ◌<◌, ◌≤◌, FitsSigned, Bool, false, ◌&&◌, ◌==◌, nat_le, nat_lt, if◌then◌else◌, IsTrue}
use Rattle.std.specs.Prelude.{List, [], ◌∷◌, length, take, drop, replicate, slice_index, Option, Some, None}
use Rattle.std.specs.Int.{cast_signed, w64}
use Rattle.std.specs.Str.{bytes_eq}
use Rattle.ss_fields.specs.Fields.{number_at}
use Rattle.ss_summary.specs.Possible.{fits_i64}
use Rattle.ss_catalog.specs.Names.{is_name}
use Rattle.ss_catalog.specs.Params.{in_range, step_number}
use Rattle.ss_catalog.specs.Events.{event_name}
use Rattle.ss_base.specs.declared.limits.TheConstants.{LAST_TIME}
use Rattle.ss_catalog.specs.declared.event.Event.{Event}
use Rattle.ss_catalog.specs.declared.event.Event.TheVariants.{Create, Value, Open, Close, Drop}
use Rattle.ss_codec.specs.Fields.{Field, u8, u32, u64, i64, text, with_fields}
use Rattle.ss_codec.specs.Record.{family, has_small_step, parameters}
use Rattle.ss_codec.specs.Decoded.{params_in}
use Rattle.ss_frames.specs.declared.frame.TheConstants.{FRAME_SIZE, STEP, CONTENT}

-- a frame: an event, and its place among the events of its stream since the stream was created
pub record FrameState : Type 0 where
  pub number : ℕ
  pub event : Event

-- the number of an event after the Create: from 2 on, of 64 bits
abbrev pub IsLater : ℕ → Type 0
IsLater number = (2 ≤ number) × (number < 2 ^ 64)

-- an event of this number is one that a frame can have: the Create is the first of its stream, and no Drop is one
abbrev pub IsValidFrame : ℕ → Event → Type 0
IsValidFrame number (Create name params) = (number ≡ 1) × IsTrue (is_name name) × IsTrue (in_range params) × IsTrue (has_small_step params)
IsValidFrame number (Value name t v) = IsLater number × IsTrue (is_name name) × (t ≤ LAST_TIME) × FitsSigned w64 v
IsValidFrame number (Open name t) = IsLater number × IsTrue (is_name name) × (t ≤ LAST_TIME)
IsValidFrame number (Close name t) = IsLater number × IsTrue (is_name name) × (t ≤ LAST_TIME)
IsValidFrame number (Drop name) = ⊥

-- the same, as tests
abbrev pub is_later : ℕ → Bool
is_later number = nat_le 2 number && nat_lt number (2 ^ 64)

unfoldable pub is_valid_frame : ℕ → Event → Bool
is_valid_frame number (Create name params) = number == 1 && is_name name && in_range params && has_small_step params
is_valid_frame number (Value name t v) = is_later number && is_name name && nat_le t LAST_TIME && fits_i64 v
is_valid_frame number (Open name t) = is_later number && is_name name && nat_le t LAST_TIME
is_valid_frame number (Close name t) = is_later number && is_name name && nat_le t LAST_TIME
is_valid_frame number (Drop name) = false

-- the number of an event's kind; a Drop has none, and a 0
abbrev pub kind : Event → ℕ
kind (Create name params) = 1
kind (Value name t v) = 2
kind (Open name t) = 3
kind (Close name t) = 4
kind (Drop name) = 0

-- the number of the family of a Create's target; any other event has a 0
abbrev pub target_family : Event → ℕ
target_family (Create name params) = family params.family
target_family (Value name t v) = 0
target_family (Open name t) = 0
target_family (Close name t) = 0
target_family (Drop name) = 0

-- the step of a Create's windows, 0 for none; any other event has a 0
abbrev pub target_step : Event → ℕ
target_step (Create name params) = step_number params.within
target_step (Value name t v) = 0
target_step (Open name t) = 0
target_step (Close name t) = 0
target_step (Drop name) = 0

-- the fields of what an event says of its stream
abbrev pub content : Event → List Field
content (Create name params) =
    u32 48 (parameters params.family).0
    ∷ u32 52 (parameters params.family).1
    ∷ u32 56 (parameters params.family).2
    ∷ u32 60 (parameters params.family).3
    ∷ []
content (Value name t v) = u64 48 t ∷ i64 56 v ∷ []
content (Open name t) = u64 48 t ∷ []
content (Close name t) = u64 48 t ∷ []
content (Drop name) = []

-- the fields of a frame, each at its place
abbrev pub frame_fields : FrameState → List Field
frame_fields f =
    u8 0 (kind f.event)
    ∷ u8 1 (target_family f.event)
    ∷ u8 2 (length (event_name f.event))
    ∷ u32 4 (target_step f.event)
    ∷ u64 8 f.number
    ∷ text 16 (event_name f.event)
    ∷ content f.event

-- the bytes of a frame: its fields, and zeros wherever no field is
unfoldable pub frame_spelled : FrameState → List ℕ
frame_spelled f = with_fields (replicate FRAME_SIZE 0) (frame_fields f)

-- the bytes are those of a valid frame
pub record SpellsFrame (bytes : List ℕ) (f : FrameState) : Type 0 where
  pub valid : IsValidFrame f.number f.event
  pub spelled : bytes ≡ frame_spelled f

-- the name in the bytes of a frame, and the event, by its kind; a kind that isn't there gives a Drop, which no frame has
abbrev pub name_in : List ℕ → List ℕ
name_in bytes = take (slice_index bytes 2) (drop 16 bytes)

unfoldable pub event_in : List ℕ → Event
event_in bytes =
    if slice_index bytes 0 == 1
    then Create (name_in bytes) (params_in CONTENT STEP bytes)
    else if slice_index bytes 0 == 2
    then Value (name_in bytes) (number_at 8 bytes 48) (cast_signed w64 (number_at 8 bytes 56))
    else if slice_index bytes 0 == 3
    then Open (name_in bytes) (number_at 8 bytes 48)
    else if slice_index bytes 0 == 4
    then Close (name_in bytes) (number_at 8 bytes 48)
    else Drop (name_in bytes)

-- the one frame whose spelling the bytes can be
abbrev pub frame_read : List ℕ → FrameState
frame_read bytes = record { number = number_at 8 bytes 8; event = event_in bytes }

-- the frame, if it is valid
abbrev pub checked_frame : FrameState → Option FrameState
checked_frame f = if is_valid_frame f.number f.event then Some f else None

-- the valid frame whose spelling the bytes are, if they are that of one
unfoldable pub frame_in : List ℕ → Option FrameState
frame_in bytes = if bytes_eq (frame_spelled (frame_read bytes)) bytes then checked_frame (frame_read bytes) else None
