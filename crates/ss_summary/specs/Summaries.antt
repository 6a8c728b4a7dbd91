-- The summary of a list of points, and of two lists one after the other.
use Rattle.std.specs.Prelude.{◌≡◌, ℕ, ◌+◌, ◌<◌, ◌≤◌, ℤ, pos, ◌+ℤ◌, FitsSigned, List, [], ◌∷◌, length}
use Rattle.std.specs.Int.{w64, int_min, int_max}
use Rattle.ss_summary.specs.Figures.{Figures}
use Rattle.ss_summary.specs.Filters.{filter_of_point, filter_with, four, union}
use Rattle.ss_summary.specs.Points.{Point}
use Rattle.ss_base.specs.declared.limits.TheConstants.{LAST_TIME, MOST_VALUES}

-- the sum of the values
abbrev pub total : List Point → ℤ
total [] = pos 0
total (p ∷ ps) = p.1 +ℤ total ps

-- the least of some value and those of a list
abbrev pub least : ℤ → List Point → ℤ
least v [] = v
least v (p ∷ ps) = int_min v (least p.1 ps)

-- the greatest of some value and those of a list
abbrev pub greatest : ℤ → List Point → ℤ
greatest v [] = v
greatest v (p ∷ ps) = int_max v (greatest p.1 ps)

-- the time of the last value, after one at time t
abbrev pub time_at_end : ℕ → List Point → ℕ
time_at_end t [] = t
time_at_end t (p ∷ ps) = time_at_end p.0 ps

-- the summary of a list of points that isn't empty: its count, sum, least and greatest value, first and last time, and the
-- filter of its values. An empty list has none, and only zeros stand here for it.
abbrev pub summary_of : List Point → Figures
summary_of [] = record { count = 0; sum = pos 0; min = pos 0; max = pos 0; t_first = 0; t_last = 0; filter = four (λ k. 0) }
summary_of (p ∷ ps) = record {
  count = length (p ∷ ps);
  sum = total (p ∷ ps);
  min = least p.1 ps;
  max = greatest p.1 ps;
  t_first = p.0;
  t_last = time_at_end p.0 ps;
  filter = filter_with (filter_of_point p) ps;
}

-- the figures are the summary of a list that isn't empty
pub record Summarizes (f : Figures) (values : List Point) : Type 0 where
  pub some : 0 < length values
  pub is : f ≡ summary_of values

-- the figures of two lists, the second after the first
abbrev pub joined : Figures → Figures → Figures
joined a b = record {
  count = a.count + b.count;
  sum = a.sum +ℤ b.sum;
  min = int_min a.min b.min;
  max = int_max a.max b.max;
  t_first = a.t_first;
  t_last = b.t_last;
  filter = union a.filter b.filter;
}

-- values of 64 bits at rising times, the first at `from` or later and none after the latest time
abbrev pub RiseFrom : ℕ → List Point → Type 0
RiseFrom from [] = Unit
RiseFrom from (p ∷ ps) = (from ≤ p.0) × (p.0 ≤ LAST_TIME) × FitsSigned w64 p.1 × RiseFrom (p.0 + 1) ps

-- the values that a summary may be of: some, but not too many, at rising times
pub record AreValues (values : List Point) : Type 0 where
  pub some : 0 < length values
  pub few : length values ≤ MOST_VALUES
  pub rising : RiseFrom 0 values
