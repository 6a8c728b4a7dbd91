-- A state whose windows are still to be joined, and the state that it closes to.
use Rattle.std.specs.Prelude.{List, map}
use Rattle.ss_model.specs.Closed.{closed}
use Rattle.ss_targets.specs.Rule.{rule_of}
use Rattle.ss_model.specs.State.{Stream, values_in}

-- a stream, with each run of its windows that may be one joined
abbrev pub closed_stream : Stream → Stream
closed_stream s = record s { windows = closed (rule_of s.params) (values_in s) s.windows }

-- the same of each stream of a state
abbrev pub closed_state : List Stream → List Stream
closed_state streams = map closed_stream streams
