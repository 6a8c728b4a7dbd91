-- When a replica follows a primary, however its frames come.
use Rattle.std.specs.Prelude.{◌≡◌, ℕ, Bool, true, false, IsTrue, List, [], ◌∷◌, ◌++◌, length, Some}
use Rattle.std.specs.List.{list_all}
use Rattle.ss_catalog.specs.Events.{event_name}
use Rattle.ss_catalog.specs.declared.event.Event.{Event}
use Rattle.ss_catalog.specs.declared.event.Event.TheVariants.{Create, Value, Open, Close, Drop}
use Rattle.ss_summary.specs.Points.{Origin, New, Old}
use Rattle.ss_model.specs.History.{Happened}
use Rattle.ss_model.specs.Refusals.{IsHistory, stands}
use Rattle.ss_model.specs.State.{Stream, state, stream_named}
use Rattle.ss_frames.specs.Frame.{FrameState}
use Rattle.ss_replica.specs.Own.{own}

-- a list is the front of another, which may go on behind it
abbrev pub IsFront : {X : Type 0} → List X → List X → Type 0
IsFront {X} front whole = (rest : List X) × (whole ≡ front ++ rest)

-- whether an event drops no stream
abbrev pub drops_none : Event → Bool
drops_none (Create name params) = true
drops_none (Value name t v) = true
drops_none (Open name t) = true
drops_none (Close name t) = true
drops_none (Drop name) = false

-- whether an event neither creates nor drops a stream
abbrev pub comes_last : Event → Bool
comes_last (Create name params) = false
comes_last (Value name t v) = true
comes_last (Open name t) = true
comes_last (Close name t) = true
comes_last (Drop name) = false

-- whether an event is new, if it is a value
abbrev pub is_new : Origin → Bool
is_new New = true
is_new Old = false

abbrev pub is_new_value : Origin → Event → Bool
is_new_value origin (Create name params) = true
is_new_value origin (Value name t v) = is_new origin
is_new_value origin (Open name t) = true
is_new_value origin (Close name t) = true
is_new_value origin (Drop name) = true

-- a history that replicas can follow: it drops no stream, and all of its values are new
pub record IsPrimary (history : List Happened) : Type 0 where
  pub is_history : IsHistory history
  pub undropped : IsTrue (list_all (λ (e : Happened). drops_none e.0) history)
  pub values : IsTrue (list_all (λ (e : Happened). is_new_value e.1 e.0) history)

-- a frame is that of an event of a history: its number is the event's place in what its stream owned then
pub record IsFrameOf (history : List Happened) (frame : FrameState) : Type 0 where
  pub before : List Happened
  pub origin : Origin
  pub after : List Happened
  pub is : history ≡ before ++ (frame.event, origin) ∷ after
  pub number : frame.number ≡ length (own (before ++ (frame.event, origin) ∷ []) (event_name frame.event))

-- what each stream that stands after a history owns is a front of what the stream of the same name owns of another
abbrev pub AreFronts : List Happened → List Happened → Type 0
AreFronts history primary = (name : List ℕ) → IsTrue (stands name (state history)) → IsFront (own history name) (own primary name)

-- two streams have the same name, parameters, windows and landmarks. Their numbers may differ.
pub record AreAlikeStreams (s other : Stream) : Type 0 where
  pub name : s.name ≡ other.name
  pub params : s.params ≡ other.params
  pub windows : s.windows ≡ other.windows
  pub landmarks : s.landmarks ≡ other.landmarks

-- a stream is like that of a name after a front of a history
pub record IsOfFront (primary : List Happened) (name : List ℕ) (s : Stream) : Type 0 where
  pub front : List Happened
  pub is_front : IsFront front primary
  pub stream : Stream
  pub stands : stream_named name (state front) ≡ Some stream
  pub alike : AreAlikeStreams s stream
