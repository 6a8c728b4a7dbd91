-- The two straight lines whose greater one is the least sum of x values, where they cross, and the least of a function.
use Rattle.std.specs.Prelude.{◌≡◌, ℕ, ◌+◌, ◌-◌, ◌<◌, ◌≤◌, if◌then◌else◌, ℤ, pos, ◌+ℤ◌, ◌-ℤ◌, ◌*ℤ◌, ◌≤ℤ◌, ◌<ℤ◌, int_le}
use Rattle.ss_bounds.specs.Split.{SplitFigures, low_sum}

-- x times the least value, and the sum of all without the greatest value for each of the others
abbrev pub each_least : SplitFigures → ℕ → ℤ
each_least s x = pos x *ℤ s.min

abbrev pub others_greatest : SplitFigures → ℕ → ℤ
others_greatest s x = s.sum -ℤ (pos (s.count - x) *ℤ s.max)

-- the first line is the greater one at k, and the second, which is as steep or steeper, at k + 1
pub record IsCrossing (s : SplitFigures) (k : ℕ) : Type 0 where
  pub steeper : s.min ≤ℤ s.max
  pub few : k < s.count
  pub before : others_greatest s k ≤ℤ each_least s k
  pub after : each_least s (k + 1) ≤ℤ others_greatest s (k + 1)

-- v is the least of f from a to b
pub record IsLeast (f : ℕ → ℤ) (a b : ℕ) (v : ℤ) : Type 0 where
  pub at_most : (x : ℕ) → a ≤ x → x ≤ b → v ≤ℤ f x
  pub reached : (x : ℕ) × (a ≤ x) × (x ≤ b) × (f x ≡ v)

-- y is the last of a to b at which f is least
pub record IsLastLeast (f : ℕ → ℤ) (a b y : ℕ) : Type 0 where
  pub from : a ≤ y
  pub to : y ≤ b
  pub at_most : (x : ℕ) → a ≤ x → x ≤ b → f y ≤ℤ f x
  pub last : (x : ℕ) → y < x → x ≤ b → f y <ℤ f x

-- of two numbers the first, unless f is less at the second
abbrev pub lower : (ℕ → ℤ) → ℕ → ℕ → ℕ
lower f x y = if int_le (f x) (f y) then x else y

-- from a to b f grows by the same step each time
pub record IsStraight (f : ℕ → ℤ) (step : ℤ) (a b : ℕ) : Type 0 where
  pub next : (x : ℕ) → a ≤ x → x < b → f (x + 1) ≡ (f x +ℤ step)

-- p and q are one number or neighbours, and the least sum is straight from a to p, and from q to b
pub record AreTurns (s : SplitFigures) (a b : ℕ) (turns : ℕ × ℕ) : Type 0 where
  pub from : a ≤ turns.0
  pub to : turns.1 ≤ b
  pub order : turns.0 ≤ turns.1
  pub beside : turns.1 ≤ turns.0 + 1
  pub first : IsStraight (low_sum s) s.min a turns.0
  pub second : IsStraight (low_sum s) s.max turns.1 b
