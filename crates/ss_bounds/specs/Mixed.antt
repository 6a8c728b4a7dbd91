-- Fractions as the code holds them.
use Rattle.ss_base.specs.Near.{IsNear}
use Rattle.std.specs.Prelude.{◌≡◌, ℕ, ◌+◌, ◌-◌, ◌*◌, ◌^◌, ◌<◌, ◌≤◌, Bool, if◌then◌else◌, ℤ, pos, ◌+ℤ◌, ◌*ℤ◌, unsigned_abs, Option, None, Some}
use Rattle.std.proofs.Common.{Ordering}
use Rattle.std.specs.declared.cmp.Ordering.TheVariants.{Less, Equal, Greater}
use Rattle.ss_bounds.specs.Split.{SplitFigures}
use Rattle.ss_bounds.specs.Guess.{Fraction, spread_over, whole}
use Rattle.ss_bounds.specs.declared.mixed.Mixed.{Mixed}
use Rattle.ss_bounds.specs.declared.spread.Spread.{Spread}

-- a proper fraction, and a whole number, whose parts fit
pub record IsProper (m : Mixed) : Type 0 where
  pub some : 0 < m.under
  pub proper : m.over < m.under
  pub small : m.under ≤ 2 ^ 120
  pub near : IsNear m.whole

-- the same as a fraction
pub record IsMixed (a : Fraction) (m : Mixed) : Type 0 where
  pub under : a.under ≡ m.under
  pub over : a.over ≡ ((pos m.under *ℤ m.whole) +ℤ pos m.over)
  pub fits : IsProper m

-- by how much the nearest whole number is above one that is even or isn't, by how what lies above that compares with one half and with
-- three
abbrev pub rise : Ordering → Ordering → Bool → ℤ
rise Less more even = pos 0
rise Equal more even = if even then pos 0 else pos 1
rise Greater Less even = pos 1
rise Greater Equal even = if even then pos 2 else pos 1
rise Greater Greater even = pos 2

-- how many values are guessed, as a whole number and a part of the free times
pub record IsSpread (s : SplitFigures) (guess : Spread) : Type 0 where
  pub times : guess.times ≡ spread_over s
  pub values : guess.times * guess.values + guess.rest ≡ s.ends * spread_over s + (s.count - 2) * s.inside
  pub proper : guess.rest < guess.times
  pub few : guess.values ≤ s.count
  pub most : guess.values ≤ 2 ^ 40
  pub short : guess.times ≤ 2 ^ 63

-- the fraction of a window, and 0 where there is none
abbrev pub part_of : (SplitFigures → Fraction) → Option SplitFigures → Fraction
part_of guess None = whole (pos 0)
part_of guess (Some s) = guess s

-- what rests of a sum and of free times come to, as a whole number and a part of count * times
pub record AreRests (count left : ℕ) (guess : Spread) (spare : ℕ) (found : ℤ × ℕ) : Type 0 where
  pub parts : ((pos (count * guess.times) *ℤ found.0) +ℤ pos found.1) ≡ pos (left * (guess.times * guess.values + guess.rest) + count * spare)
  pub proper : found.1 < count * guess.times
  pub near : unsigned_abs found.0 ≤ 2 ^ 110
