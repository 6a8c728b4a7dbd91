-- Histories: the events that stores accepted, oldest first, each with whether it is old or new.
use Rattle.std.specs.Prelude.{ℕ, ◌≤◌, Bool, false, if◌then◌else◌, List, [], ◌∷◌, ◌++◌, filter, fold, FitsSigned}
use Rattle.std.specs.List.{after_last}
use Rattle.std.specs.Int.{w64}
use Rattle.ss_catalog.specs.Events.{event_name}
use Rattle.ss_catalog.specs.Names.{same_name}
use Rattle.ss_base.specs.declared.limits.TheConstants.{LAST_TIME}
use Rattle.ss_catalog.specs.declared.event.Event.{Event}
use Rattle.ss_catalog.specs.declared.event.Event.TheVariants.{Create, Value, Open, Close, Drop}
use Rattle.ss_landmarks.specs.Landmark.{Landmark}
use Rattle.ss_summary.specs.Points.{Point, Origin, New}
use Rattle.ss_model.specs.Marks.{has_open, marked_values, with_closed, with_marked, with_opened}

-- An event that happened, and where its point is from: a value is old where a store without filters took it. Nothing but the
-- filters of windows looks at this.
abbrev pub Happened : Type 0
Happened = Event × Origin

-- an event as a store with filters adds it
abbrev pub added : Event → Happened
added event = (event, New)

-- whether an event is for the stream of a name
abbrev pub is_for : List ℕ → Event → Bool
is_for name event = same_name name (event_name event)

-- whether an event creates the stream of a name
abbrev pub creates : List ℕ → Event → Bool
creates name (Create other params) = same_name name other
creates name (Value other t v) = false
creates name (Open other t) = false
creates name (Close other t) = false
creates name (Drop other) = false

-- the events of a stream: those that name it after its last create
abbrev pub events_of : List Happened → List ℕ → List Happened
events_of history name = filter (λ e. is_for name e.0) (after_last (λ e. creates name e.0) history)

-- what a stream was given: its values outside landmarks, and its landmarks, oldest first
pub record Given : Type 0 where
  pub plain : List Point
  pub landmarks : List Landmark

-- before its first event
abbrev pub nothing_given : Given
nothing_given = record { plain = []; landmarks = [] }

-- what a stream was given with one more of its events. A value is the open landmark's, where one is open.
abbrev pub given_after : Origin → Given → Event → Given
given_after origin given (Create name params) = given
given_after origin given (Value name t v) =
    if has_open given.landmarks
    then record given { landmarks = with_marked given.landmarks t v }
    else record given { plain = given.plain ++ (t, v, origin) ∷ [] }
given_after origin given (Open name t) = record given { landmarks = with_opened given.landmarks t }
given_after origin given (Close name t) = record given { landmarks = with_closed given.landmarks t }
given_after origin given (Drop name) = given

-- what a history gave the stream of a name
abbrev pub given_to : List Happened → List ℕ → Given
given_to history name = fold (λ given (e : Happened). given_after e.1 given e.0) nothing_given (events_of history name)

-- the values of a stream outside landmarks, oldest first
abbrev pub values_of : List Happened → List ℕ → List Point
values_of history name = (given_to history name).plain

-- its landmarks, oldest first, each with its values
abbrev pub landmarks_of : List Happened → List ℕ → List Landmark
landmarks_of history name = (given_to history name).landmarks

-- the values of its landmarks, oldest first
abbrev pub marked_of : List Happened → List ℕ → List Point
marked_of history name = marked_values (landmarks_of history name)

-- an event as a command can say it: no time above the last one, and a value of 64 bits
abbrev pub CanBeSaid : Event → Type 0
CanBeSaid (Create name params) = Unit
CanBeSaid (Value name t v) = (t ≤ LAST_TIME) × FitsSigned w64 v
CanBeSaid (Open name t) = t ≤ LAST_TIME
CanBeSaid (Close name t) = t ≤ LAST_TIME
CanBeSaid (Drop name) = Unit
