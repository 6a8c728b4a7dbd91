-- What events say.
use Rattle.std.specs.Prelude.{ℕ, ◌≤◌, List}
use Rattle.ss_base.specs.declared.limits.TheConstants.{LAST_TIME}
use Rattle.ss_catalog.specs.declared.event.Event.{Event}
use Rattle.ss_catalog.specs.declared.event.Event.TheVariants.{Create, Value, Open, Close, Drop}

-- the name of the stream that an event is for
abbrev pub event_name : Event → List ℕ
event_name (Create name params) = name
event_name (Value name t v) = name
event_name (Open name t) = name
event_name (Close name t) = name
event_name (Drop name) = name

-- an event has no time above the last one
abbrev pub IsInTime : Event → Type 0
IsInTime (Create name params) = Unit
IsInTime (Value name t v) = t ≤ LAST_TIME
IsInTime (Open name t) = t ≤ LAST_TIME
IsInTime (Close name t) = t ≤ LAST_TIME
IsInTime (Drop name) = Unit
