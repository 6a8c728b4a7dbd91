-- Points of a series: values at their times.
use Rattle.std.specs.Prelude.{ℕ, ℤ}

-- where a point is from: a store without filters took it, before filters were kept, or one with filters
pub data Origin : Type 0 where
  Old : Origin
  New : Origin

-- a point: its time, its value, and where it is from
abbrev pub Point : Type 0
Point = ℕ × ℤ × Origin
