-- How far back an end of a range lies, and how much a window that it cuts leaves open: of a count, and of a sum.
use Rattle.std.specs.Prelude.{ℕ, ◌+◌, ◌-◌, Bool, false, ◌&&◌, ◌||◌, nat_le, nat_lt, if◌then◌else◌, ℤ, pos, ◌-ℤ◌, ◌*ℤ◌, List, [], ◌∷◌, map}
use Rattle.std.specs.Int.{int_max, int_min}
use Rattle.ss_bounds.specs.Split.{SplitFigures}
use Rattle.ss_bounds.specs.Truth.{total}
use Rattle.ss_summary.specs.Points.{Point}
use Rattle.ss_targets.specs.Windowing.{window_index}
use Rattle.ss_model.specs.declared.types.Window.{Window}

-- how many values have this time or a later one
abbrev pub values_since : ℕ → List Point → ℕ
values_since t [] = 0
values_since t (p ∷ ps) = (if nat_le t p.0 then 1 else 0) + values_since t ps

-- a time cuts a window: some of its values lie before it, and some don't
abbrev pub is_cut : ℕ → Window → Bool
is_cut t w = nat_lt w.summary.t_first t && nat_le t w.summary.t_last

-- a time cuts one of some windows
abbrev pub cuts : ℕ → List Window → Bool
cuts t [] = false
cuts t (w ∷ ws) = is_cut t w || cuts t ws

-- the length of the target window that holds the oldest of the values from this time on
abbrev pub length_at : (ℕ → ℕ) → ℕ → List Point → ℕ
length_at len t values = len (window_index len (values_since t values - 1))

-- how many values a window that this time cuts leaves open at most: all but its first and its last; 0 where none is cut
abbrev pub open_at : (ℕ → ℕ) → ℕ → List Point → List Window → ℕ
open_at len t values ws = if cuts t ws then length_at len t values - 2 else 0

-- how much a window that a range splits leaves a sum open at most: one less than its number of values, times how far it is from the lesser of
-- 0 and its least value to the greater of 0 and its greatest; and several windows
abbrev pub open_sum : SplitFigures → ℤ
open_sum s = pos (s.count - 1) *ℤ (int_max (pos 0) s.max -ℤ int_min (pos 0) s.min)

abbrev pub open_sums : List SplitFigures → ℤ
open_sums splits = total (map open_sum splits)
