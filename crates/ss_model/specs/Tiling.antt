-- Windows that hold every position from 1 on, in the order of their times.
use Rattle.std.specs.Prelude.{◌≡◌, ℕ, ◌+◌, ◌<◌, ◌≤◌, List, [], ◌∷◌}
use Rattle.ss_base.specs.declared.limits.TheConstants.{MOST_VALUES}
use Rattle.ss_summary.specs.Figures.{IsPossible}
use Rattle.ss_base.specs.declared.limits.TheConstants.{MOST_VALUES}
use Rattle.ss_model.specs.Windows.{taken}
use Rattle.ss_model.specs.declared.types.Window.{Window}

-- windows one after the other, the first at a position and no earlier than a time
abbrev pub StandFrom : ℕ → ℕ → List Window → Type 0
StandFrom first time [] = Unit
StandFrom first time (w ∷ ws) =
    (w.first ≡ first) × IsPossible w.summary × (time ≤ w.summary.t_first)
    × StandFrom (first + w.summary.count) (w.summary.t_last + 1) ws

-- the windows of some values: they hold each position from 1 on, at rising times, and at most 2^40 of them
pub record AreWindows (ws : List Window) : Type 0 where
  pub stand : StandFrom 1 0 ws
  pub few : taken ws ≤ MOST_VALUES

-- what two windows side by side are to each other
pub record AreNeighbours (w v : Window) : Type 0 where
  pub next : w.first + w.summary.count ≡ v.first
  pub some : 1 ≤ w.summary.count
  pub some_behind : 1 ≤ v.summary.count
  pub times : w.summary.t_last < v.summary.t_first
  pub few : w.summary.count + v.summary.count ≤ MOST_VALUES
