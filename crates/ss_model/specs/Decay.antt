-- How many windows may stand, and how long each may be.
use Rattle.std.specs.Prelude.{◌≡◌, ℕ, zero, suc, ◌+◌, ◌-◌, ◌≤◌, true, false, List, [], ◌∷◌, if◌then◌else◌}
use Rattle.ss_targets.specs.Windowing.{window_index}
use Rattle.ss_model.specs.Closed.{last_position, may_join}
use Rattle.ss_targets.specs.Rule.{Rule, in_step}
use Rattle.ss_model.specs.declared.types.Placed.{Placed}
use Rattle.ss_model.specs.declared.types.Window.{Window}

-- how many target windows cover n positions: those up to the one that holds the oldest
abbrev pub cover : (ℕ → ℕ) → ℕ → ℕ
cover len zero = 0
cover len (suc age) = window_index len age + 1

-- no two neighbours may be one at n
abbrev pub NoneIsDue : Rule → ℕ → List Window → Type 0
NoneIsDue rule n [] = Unit
NoneIsDue rule n (w ∷ []) = Unit
NoneIsDue rule n (w ∷ v ∷ vs) = (may_join rule n w v ≡ false) × NoneIsDue rule n (v ∷ vs)

-- the first time of a window lies in one step with its last
abbrev pub IsInStep : ℕ → Window → Type 0
IsInStep step w = in_step step w.summary.t_first w.summary.t_last ≡ true

-- how often times go on to another step, after a time
abbrev pub steps_after : ℕ → ℕ → List ℕ → ℕ
steps_after step t [] = 0
steps_after step t (u ∷ us) = (if in_step step t u then 0 else 1) + steps_after step u us

-- how many steps rising times lie in
abbrev pub steps_met : ℕ → List ℕ → ℕ
steps_met step [] = 0
steps_met step (t ∷ ts) = 1 + steps_after step t ts

-- the first time and the last of each window
abbrev pub ends_of : List Window → List ℕ
ends_of [] = []
ends_of (w ∷ ws) = w.summary.t_first ∷ w.summary.t_last ∷ ends_of ws

-- at n a window is at most as long as the target window that holds its last value
abbrev pub IsWithinTarget : (ℕ → ℕ) → ℕ → Window → Type 0
IsWithinTarget len n w = w.summary.count ≤ len (window_index len (n - last_position w))

-- the same of a window as it is read
abbrev pub IsReadWithinTarget : (ℕ → ℕ) → ℕ → Placed → Type 0
IsReadWithinTarget len n p = p.summary.count ≤ len (window_index len (n - p.last))
