-- How one more event changes a state.
use Rattle.std.specs.Prelude.{ℕ, ◌+◌, not, if◌then◌else◌, List, [], ◌∷◌, ◌++◌, map, filter, length, Option, Some, None}
use Rattle.ss_catalog.specs.Names.{same_name}
use Rattle.ss_catalog.specs.declared.event.Event.{Event}
use Rattle.ss_catalog.specs.declared.event.Event.TheVariants.{Create, Value, Open, Close, Drop}
use Rattle.ss_summary.specs.Points.{Point, Origin, New}
use Rattle.ss_summary.specs.Summaries.{summary_of}
use Rattle.ss_model.specs.Closed.{closed}
use Rattle.ss_model.specs.Marks.{has_open, with_closed, with_marked, with_opened}
use Rattle.ss_targets.specs.Rule.{rule_of}
use Rattle.ss_model.specs.State.{Stream, next_number, numbers_of, stream_named, values_in}
use Rattle.ss_model.specs.declared.types.Ack.{Ack}
use Rattle.ss_model.specs.declared.types.Window.{Window}

-- a value at a position, as a window of its own
abbrev pub single_window : ℕ → Point → Window
single_window position p = record { first = position; summary = summary_of (p ∷ []) }

-- a stream with one more value outside landmarks: a window of its own after the others, and then those that are due are joined
abbrev pub with_plain_value : Stream → Point → Stream
with_plain_value s p =
    let n = values_in s + 1 in
    record s { windows = closed (rule_of s.params) n (s.windows ++ single_window n p ∷ []) }

-- a stream with one more value, which is the open landmark's, where one is open
abbrev pub with_taken : Stream → Point → Stream
with_taken s p = if has_open s.landmarks then record s { landmarks = with_marked s.landmarks p.0 p.1 } else with_plain_value s p

-- the streams, with that of a name changed
abbrev pub change_named : List ℕ → (Stream → Stream) → List Stream → List Stream
change_named name change streams = map (λ s. if same_name name s.name then change s else s) streams

-- the streams, without that of a name
abbrev pub without_named : List ℕ → List Stream → List Stream
without_named name streams = filter (λ s. not (same_name name s.name)) streams

-- the state after one more event of this origin that isn't refused. A landmark's event touches no window.
unfoldable pub stepped_from : Origin → List Stream → Event → List Stream
stepped_from origin streams (Create name params) =
    streams ++ record { number = next_number (numbers_of streams); name = name; params = params; windows = []; landmarks = [] } ∷ []
stepped_from origin streams (Value name t v) = change_named name (λ s. with_taken s (t, v, origin)) streams
stepped_from origin streams (Open name t) = change_named name (λ s. record s { landmarks = with_opened s.landmarks t }) streams
stepped_from origin streams (Close name t) = change_named name (λ s. record s { landmarks = with_closed s.landmarks t }) streams
stepped_from origin streams (Drop name) = without_named name streams

-- the same of an event as a store with filters adds it
abbrev pub stepped : List Stream → Event → List Stream
stepped streams event = stepped_from New streams event

-- what is said of a stream, and zeros where it doesn't stand
abbrev pub said_of : Option Stream → Ack
said_of None = record { n = 0; k = 0 }
said_of (Some s) = record { n = values_in s; k = length s.windows }

-- what the reply to an accepted event says of its stream: how many values it has taken, and how many windows stand
abbrev pub ack_of : List ℕ → List Stream → Ack
ack_of name streams = said_of (stream_named name streams)
