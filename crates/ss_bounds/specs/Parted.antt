-- How the values of a split window may be parted into some inside a range and the others outside it.
use Rattle.std.specs.Prelude.{ℕ, ◌-◌, ◌<◌, ◌≤◌, ◌⊎◌, ℤ, pos, ◌+ℤ◌, ◌-ℤ◌, ◌*ℤ◌, ◌≤ℤ◌}
use Rattle.ss_bounds.specs.Split.{SplitFigures}

-- k values from m to M can have the sum v
pub record CanMake (m M : ℤ) (k : ℕ) (v : ℤ) : Type 0 where
  pub low : (pos k *ℤ m) ≤ℤ v
  pub high : v ≤ℤ (pos k *ℤ M)

-- k values up to M can have the sum v with m among them: each of the others is at most M
pub record CanHoldLeast (m M : ℤ) (k : ℕ) (v : ℤ) : Type 0 where
  pub some : 1 ≤ k
  pub high : v ≤ℤ (m +ℤ pos (k - 1) *ℤ M)

-- k values from m on can have the sum v with M among them: each of the others is at least m
pub record CanHoldGreatest (m M : ℤ) (k : ℕ) (v : ℤ) : Type 0 where
  pub some : 1 ≤ k
  pub low : (M +ℤ pos (k - 1) *ℤ m) ≤ℤ v

-- x of the window's values can have the sum v, and the others what is left of its sum, with the least and the greatest value on
-- one side or the other
pub record CanBeParted (s : SplitFigures) (x : ℕ) (v : ℤ) : Type 0 where
  pub few : x < s.count
  pub inside : CanMake s.min s.max x v
  pub outside : CanMake s.min s.max (s.count - x) (s.sum -ℤ v)
  pub least : CanHoldLeast s.min s.max x v ⊎ CanHoldLeast s.min s.max (s.count - x) (s.sum -ℤ v)
  pub greatest : CanHoldGreatest s.min s.max x v ⊎ CanHoldGreatest s.min s.max (s.count - x) (s.sum -ℤ v)
