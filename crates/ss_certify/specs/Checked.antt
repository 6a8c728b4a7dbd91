-- When evidence shows that an end of an answer can't be narrower, filters aside.
use Rattle.std.specs.Prelude.{◌≡◌, ◌⊎◌, ◌-◌, ◌≤◌, ℤ, ◌+ℤ◌, List, ◌++◌, length, Contains}
use Rattle.ss_bounds.specs.Split.{SplitFigures, least_count, greatest_count}
use Rattle.ss_bounds.specs.Truth.{AllBetween, total}
use Rattle.ss_base.specs.declared.limits.TheConstants.{MOST_VALUES}
use Rattle.ss_certify.specs.Runs.{HaveValues, LieBetween, Occurs, run_count, run_total, values_of_runs}
use Rattle.ss_query.specs.declared.cut.Cut.{Cut}
use Rattle.ss_certify.specs.declared.evidence.Cert.{Cert}

-- the values of a certificate in the range, those outside it, and all of them
abbrev pub inside_of : Cert → List ℤ
inside_of c = values_of_runs c.inside.items

abbrev pub outside_of : Cert → List ℤ
outside_of c = values_of_runs c.outside.items

abbrev pub certified_values : Cert → List ℤ
certified_values c = inside_of c ++ outside_of c

-- a certificate is of this window, and its values are such as the window may hold
pub record Certifies (cut : Cut) (c : Cert) : Type 0 where
  -- it names the window, with its first and last position and its figures
  pub first : c.first ≡ cut.first
  pub last : c.last ≡ cut.last
  pub split : c.split ≡ cut.split
  -- so many of the window's values may lie in the range
  pub fewest : least_count cut.split ≤ c.x
  pub most : c.x ≤ greatest_count cut.split
  -- no run is empty, so many values lie inside the range, and the others outside it
  pub inside_runs : HaveValues c.inside.items
  pub outside_runs : HaveValues c.outside.items
  pub inside_count : length (inside_of c) ≡ c.x
  pub outside_count : length (outside_of c) ≡ cut.split.count - c.x
  -- they lie from the least to the greatest, both of which occur, and have the sum
  pub between : AllBetween cut.split.min cut.split.max (certified_values c)
  pub least : Contains (certified_values c) cut.split.min
  pub greatest : Contains (certified_values c) cut.split.max
  pub sum : total (certified_values c) ≡ cut.split.sum

-- the same by runs, as it is checked: what a certificate is of, and how many values it has inside the range and outside it
abbrev pub IsOf : Cut → Cert → Type 0
IsOf cut c =
    ((c.first ≡ cut.first) × (c.last ≡ cut.last) × (c.split ≡ cut.split)) × ((least_count cut.split ≤ c.x) × (c.x ≤ greatest_count cut.split))
    × (HaveValues c.inside.items × HaveValues c.outside.items
    × (run_count c.inside.items ≡ c.x) × (run_count c.outside.items ≡ cut.split.count - c.x))

-- and which values
abbrev pub HasValues : SplitFigures → Cert → Type 0
HasValues s c =
    (LieBetween s.min s.max c.inside.items × LieBetween s.min s.max c.outside.items)
    × ((Occurs s.min c.inside.items ⊎ Occurs s.min c.outside.items) × (Occurs s.max c.inside.items ⊎ Occurs s.max c.outside.items))
    × ((run_total c.inside.items +ℤ run_total c.outside.items) ≡ s.sum)

-- it has no more values in the range than a window may have, so their sum is near
abbrev pub HasFewInside : Cert → Type 0
HasFewInside c = (run_count c.inside.items ≤ MOST_VALUES) × (c.x ≤ MOST_VALUES)
