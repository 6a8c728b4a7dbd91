-- What is true of the values of split windows, which a store no longer has one by one. They are points at rising times.
use Rattle.std.specs.Prelude.{◌≡◌, ℕ, ◌+◌, ◌≤◌, Bool, true, ℤ, pos, ◌+ℤ◌, ◌≤ℤ◌, List, [], ◌∷◌, length, map, Option, MatchOption}
use Rattle.std.specs.List.{filter, flat_map}
use Rattle.ss_summary.specs.Summaries.{time_at_end}
use Rattle.ss_summary.specs.Points.{Point}
use Rattle.ss_bounds.specs.declared.extreme.Extreme.{Extreme}
use Rattle.ss_bounds.specs.declared.extreme.Extreme.TheVariants.{Nothing, Sure, Maybe}
use Rattle.ss_bounds.specs.Split.{SplitFigures, least_count, greatest_count}
use Rattle.ss_bounds.specs.Times.{lies_in, split_of}

-- the sum of some values
abbrev pub total : List ℤ → ℤ
total [] = pos 0
total (v ∷ vs) = v +ℤ total vs

-- the values alone, and those at times in from..=to
abbrev pub values_alone : List Point → List ℤ
values_alone values = map (λ p. p.1) values

abbrev pub asked : ℕ → ℕ → List Point → List ℤ
asked from to values = values_alone (filter (λ p. lies_in from to p.0) values)

-- values from m to M at rising times, free ones, the first at `start` or later
abbrev pub RiseFree : (ℕ → Bool) → ℤ → ℤ → ℕ → List Point → Type 0
RiseFree free m M start [] = Unit {0}
RiseFree free m M start (p ∷ ps) =
    (start ≤ p.0) × (free p.0 ≡ true) × (m ≤ℤ p.1) × (p.1 ≤ℤ M) × RiseFree free m M (p.0 + 1) ps

-- two values or more, the first given by itself, have these figures as a window that the range from..=to splits
pub record AreSplit (free : ℕ → Bool) (from to : ℕ) (p : Point) (ps : List Point) (s : SplitFigures) : Type 0 where
  pub more : 1 ≤ length ps
  pub rising : RiseFree free s.min s.max 0 (p ∷ ps)
  pub is : s ≡ split_of free from to (length (p ∷ ps)) (total (values_alone (p ∷ ps))) s.min s.max p.0 (time_at_end p.0 ps)

-- each value is one of m to M
abbrev pub AllBetween : ℤ → ℤ → List ℤ → Type 0
AllBetween m M [] = Unit {0}
AllBetween m M (v ∷ vs) = (m ≤ℤ v) × (v ≤ℤ M) × AllBetween m M vs

-- values of a split window that may be those in the range: as many as may lie there, none less than the window's least or
-- greater than its greatest
pub record MayLieThere (s : SplitFigures) (values : List ℤ) : Type 0 where
  pub fewest : least_count s ≤ length values
  pub most : length values ≤ greatest_count s
  pub between : AllBetween s.min s.max values

-- what is known of a least or a greatest value is true of it, or of there being none
abbrev pub HoldsExtreme : Extreme → Option ℤ → Type 0
HoldsExtreme Nothing truth = MatchOption truth (Unit {0}) (λ v. ⊥)
HoldsExtreme (Sure lo hi) truth = MatchOption truth ⊥ (λ v. (lo ≤ℤ v) × (v ≤ℤ hi))
HoldsExtreme (Maybe lo hi) truth = MatchOption truth (Unit {0}) (λ v. (lo ≤ℤ v) × (v ≤ℤ hi))

-- each split window comes with values that may be those in the range
abbrev pub MayAllLieThere : List (SplitFigures × List ℤ) → Type 0
MayAllLieThere [] = Unit {0}
MayAllLieThere (w ∷ ws) = MayLieThere w.0 w.1 × MayAllLieThere ws

-- the windows, and the values of all of them
abbrev pub windows_alone : List (SplitFigures × List ℤ) → List SplitFigures
windows_alone windows = map (λ w. w.0) windows

abbrev pub values_of_all : List (SplitFigures × List ℤ) → List ℤ
values_of_all windows = flat_map (λ w. w.1) windows
