-- What a summary says of a list of points.
use Rattle.std.specs.Prelude.{◌≡◌, ℕ, ◌+◌, ◌-◌, ◌≤◌, ℤ, pos, ◌+ℤ◌, ◌*ℤ◌, ◌≤ℤ◌, FitsSigned, IsTrue}
use Rattle.std.specs.Int.{w64}
use Rattle.ss_summary.specs.Filters.{full, has, IsFilter}
use Rattle.ss_summary.specs.declared.filter.Filter.{Filter}
use Rattle.ss_base.specs.declared.limits.TheConstants.{LAST_TIME, MOST_VALUES}

-- the figures of a summary: times and counts are whole numbers, and a sum may be of any size
pub record Figures : Type 0 where
  pub count : ℕ
  pub sum : ℤ
  pub min : ℤ
  pub max : ℤ
  pub t_first : ℕ
  pub t_last : ℕ
  pub filter : Filter

-- figures are alike where they differ in nothing but the filter
abbrev pub unfiltered : Figures → Figures
unfiltered f = record f { filter = full }

abbrev pub AreAlike : Figures → Figures → Type 0
AreAlike f g = unfiltered f ≡ unfiltered g

-- the conditions that the figures of some values meet: 1 to 2^40 values of 64 bits, no two at one time, no time above 2^62, and a
-- filter with the bits of the least and of the greatest
pub record IsPossible (f : Figures) : Type 0 where
  pub count_low : 1 ≤ f.count
  pub count_high : f.count ≤ MOST_VALUES
  pub times : f.t_first + f.count ≤ f.t_last + 1
  pub last : f.t_last ≤ LAST_TIME
  pub one : f.count ≡ 1 → f.t_first ≡ f.t_last
  pub min_fits : FitsSigned w64 f.min
  pub max_fits : FitsSigned w64 f.max
  pub order : f.min ≤ℤ f.max
  pub sum_low : (f.max +ℤ pos (f.count - 1) *ℤ f.min) ≤ℤ f.sum
  pub sum_high : f.sum ≤ℤ (f.min +ℤ pos (f.count - 1) *ℤ f.max)
  pub words : IsFilter f.filter
  pub min_bit : IsTrue (has f.filter f.min)
  pub max_bit : IsTrue (has f.filter f.max)
