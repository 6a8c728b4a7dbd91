-- The windows of a list of points.
use Rattle.std.specs.Prelude.{ℕ, ◌+◌, ◌-◌, List, [], ◌∷◌, length, map, get_or, take, drop, sum_by, Option, Some, None}
use Rattle.ss_summary.specs.Summaries.{summary_of, time_at_end}
use Rattle.ss_summary.specs.Points.{Point}
use Rattle.ss_model.specs.Boundaries.{boundaries}
use Rattle.ss_targets.specs.Rule.{Rule}
use Rattle.ss_model.specs.declared.types.Window.{Window}

-- the windows of values from a position on, cut after each boundary
abbrev pub stretches : ℕ → List ℕ → List Point → List Window
stretches first bs [] = []
stretches first [] (p ∷ ps) = record { first = first; summary = summary_of (p ∷ ps) } ∷ []
stretches first (b ∷ bs) (p ∷ ps) =
    record { first = first; summary = summary_of (take (b + 1 - first) (p ∷ ps)) }
    ∷ stretches (b + 1) bs (drop (b + 1 - first) (p ∷ ps))

-- the time of the value at a position from 1 on, and 0 past the last
abbrev pub time_at : List Point → ℕ → ℕ
time_at values position = get_or (map (λ (p : Point). p.0) values) (position - 1) 0

-- the windows of a list of values, oldest first
abbrev pub windows : Rule → List Point → List Window
windows rule values = stretches 1 (boundaries rule (time_at values) (length values)) values

-- how many values windows hold
abbrev pub taken : List Window → ℕ
taken ws = sum_by (λ (w : Window). w.summary.count) ws

-- the time of the newest value of windows, where there is one
abbrev pub newest_time : List Window → Option ℕ
newest_time [] = None
newest_time (w ∷ []) = Some w.summary.t_last
newest_time (w ∷ v ∷ ws) = newest_time (v ∷ ws)

-- the time of the newest of some values, where there is one
abbrev pub time_of_last : List Point → Option ℕ
time_of_last [] = None
time_of_last (p ∷ ps) = Some (time_at_end p.0 ps)
