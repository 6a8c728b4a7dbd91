-- What would be if all values of a history were old.
use Rattle.std.specs.Prelude.{map}
use Rattle.ss_summary.specs.Figures.{unfiltered}
use Rattle.ss_summary.specs.Points.{Old}
use Rattle.ss_model.specs.History.{Happened}
use Rattle.ss_model.specs.State.{Stream}
use Rattle.ss_model.specs.declared.types.Window.{Window}

-- an event, as a store without filters took it
abbrev pub as_old : Happened → Happened
as_old e = (e.0, Old)

-- a window and a stream, apart from their filters
abbrev pub unfiltered_window : Window → Window
unfiltered_window w = record { first = w.first; summary = unfiltered w.summary }

abbrev pub unfiltered_stream : Stream → Stream
unfiltered_stream s = record s { windows = map unfiltered_window s.windows }
