-- What a stream owns of a history: its events since its last create, with that create.
use Rattle.std.specs.Prelude.{ℕ, List, [], ◌∷◌, ◌++◌, length, fold, if◌then◌else◌, Option, Some, None}
use Rattle.ss_catalog.specs.Events.{event_name}
use Rattle.ss_catalog.specs.Names.{same_name}
use Rattle.ss_catalog.specs.Params.{step_number}
use Rattle.ss_catalog.specs.declared.event.Event.{Event}
use Rattle.ss_catalog.specs.declared.event.Event.TheVariants.{Create, Value, Open, Close, Drop}
use Rattle.ss_summary.specs.Points.{Origin}
use Rattle.ss_model.specs.History.{Happened, added}
use Rattle.ss_frames.specs.Frame.{FrameState}

-- an event as it counts: where a value is from tells in the filters of windows, and nothing depends on where another event is from
abbrev pub counted : Origin → Event → Happened
counted origin (Create name params) = added (Create name params)
counted origin (Value name t v) = (Value name t v, origin)
counted origin (Open name t) = added (Open name t)
counted origin (Close name t) = added (Close name t)
counted origin (Drop name) = added (Drop name)

-- what the stream of a name owns after one more event, by what it owned: a create begins anew, a drop leaves nothing, and each other
-- event of the stream comes last
abbrev pub own_after : List ℕ → List Happened → Origin → Event → List Happened
own_after name owned origin (Create other params) = if same_name name other then counted origin (Create other params) ∷ [] else owned
own_after name owned origin (Value other t v) = if same_name name other then owned ++ counted origin (Value other t v) ∷ [] else owned
own_after name owned origin (Open other t) = if same_name name other then owned ++ counted origin (Open other t) ∷ [] else owned
own_after name owned origin (Close other t) = if same_name name other then owned ++ counted origin (Close other t) ∷ [] else owned
own_after name owned origin (Drop other) = if same_name name other then [] else owned

-- what the stream of a name owns of a history: nothing, where it doesn't stand
abbrev pub own : List Happened → List ℕ → List Happened
own history name = fold (λ owned (e : Happened). own_after name owned e.1 e.0) [] history

-- the step of the stream that an event creates, 0 for none
abbrev pub step_of_event : Event → ℕ
step_of_event (Create name params) = step_number params.within
step_of_event (Value name t v) = 0
step_of_event (Open name t) = 0
step_of_event (Close name t) = 0
step_of_event (Drop name) = 0

-- the frame of an event that is added to a history: its number is the event's place in what its stream owns then
abbrev pub frame_of : List Happened → Event → FrameState
frame_of history event = record { number = length (own (history ++ added event ∷ []) (event_name event)); event = event }

-- the same, where the event has one: a drop leaves no stream
abbrev pub event_frame : List Happened → Event → Option FrameState
event_frame history (Drop name) = None
event_frame history event = Some (frame_of history event)
