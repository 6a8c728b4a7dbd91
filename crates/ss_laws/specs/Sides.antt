-- The values of a window that a range splits, those with times in the range and the others, as far as its figures tell.
use Rattle.std.specs.Prelude.{◌≡◌, ℕ, ◌+◌, ◌≤◌, ℤ, ◌+ℤ◌, List, [], ◌∷◌, ◌++◌, length, map, sum_by, Contains}
use Rattle.ss_bounds.specs.Split.{SplitFigures, least_count, greatest_count}
use Rattle.ss_bounds.specs.Truth.{AllBetween, total}

-- the values inside the range, and those outside it, each in order of time
pub record Sides : Type 0 where
  pub inside : List ℤ
  pub outside : List ℤ

-- values that have these figures: as many inside as may lie there, and as many in all as there are, each from the least to the
-- greatest, both of which occur, and all of the same sum
pub record FitSplit (s : SplitFigures) (v : Sides) : Type 0 where
  pub fewest : least_count s ≤ length v.inside
  pub most : length v.inside ≤ greatest_count s
  pub number : length v.inside + length v.outside ≡ s.count
  pub inside_between : AllBetween s.min s.max v.inside
  pub outside_between : AllBetween s.min s.max v.outside
  pub least : Contains (v.inside ++ v.outside) s.min
  pub greatest : Contains (v.inside ++ v.outside) s.max
  pub sum : (total v.inside +ℤ total v.outside) ≡ s.sum

-- each of some split windows has values that fit it, in the same order
abbrev pub AllFit : List SplitFigures → List Sides → Type 0
AllFit [] [] = Unit {0}
AllFit [] (v ∷ vs) = ⊥
AllFit (s ∷ ss) [] = ⊥
AllFit (s ∷ ss) (v ∷ vs) = FitSplit s v × AllFit ss vs

-- how many values lie inside in all, and their sum
abbrev pub count_inside : List Sides → ℕ
count_inside sides = sum_by (λ (v : Sides). length v.inside) sides

abbrev pub sum_inside : List Sides → ℤ
sum_inside sides = total (map (λ (v : Sides). total v.inside) sides)
