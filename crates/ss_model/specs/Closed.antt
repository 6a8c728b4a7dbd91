-- Windows under the merges that are due.
use Rattle.std.specs.Prelude.{ℕ, ◌+◌, ◌-◌, Bool, List, [], ◌∷◌, if◌then◌else◌}
use Rattle.ss_summary.specs.Summaries.{joined}
use Rattle.ss_targets.specs.Rule.{Rule, may_be_one}
use Rattle.ss_model.specs.declared.types.Window.{Window}

-- the position of a window's last value
abbrev pub last_position : Window → ℕ
last_position w = w.first + w.summary.count - 1

-- a window, and the one after it, as one
abbrev pub joined_window : Window → Window → Window
joined_window w v = record { first = w.first; summary = joined w.summary v.summary }

-- whether a window and the one after it may be one at n: they lie together in one target window, and the first time of the one in
-- one step with the last time of the other
abbrev pub may_join : Rule → ℕ → Window → Window → Bool
may_join rule n w v = may_be_one rule w.first (last_position v) n w.summary.t_first v.summary.t_last

-- a window and those after it, where each run that may be one at n is joined
abbrev pub closed_onto : Rule → ℕ → Window → List Window → List Window
closed_onto rule n w [] = w ∷ []
closed_onto rule n w (v ∷ vs) =
    if may_join rule n w v then closed_onto rule n (joined_window w v) vs else w ∷ closed_onto rule n v vs

-- the windows, where each run of neighbours that may be one at n is joined
abbrev pub closed : Rule → ℕ → List Window → List Window
closed rule n [] = []
closed rule n (w ∷ ws) = closed_onto rule n w ws
