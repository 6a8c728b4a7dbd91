-- The next window that is long enough, and first fits, over any sequence of window lengths.
use Rattle.std.specs.Prelude.{◌≡◌, ℕ, ◌<◌, ◌≤◌}
use Rattle.ss_targets.specs.Windowing.{cut, Fits}
use Rattle.ss_base.specs.declared.limits.TheConstants.{MOST_VALUES}
use Rattle.ss_targets.specs.declared.decay.Spot.{Spot}

-- a target window as a look-up gives it: its start and its length are those of its index
pub record IsWindow (lengths : ℕ → ℕ) (spot : Spot) : Type 0 where
  pub start : spot.start ≡ cut lengths spot.index
  pub len : spot.len ≡ lengths spot.index

-- window k is the first one, from window i on, that has at least a length
pub record IsFirstOfLength (lengths : ℕ → ℕ) (i wanted k : ℕ) : Type 0 where
  pub reached : i ≤ k
  pub long : wanted ≤ lengths k
  pub least : (j : ℕ) → i ≤ j → wanted ≤ lengths j → k ≤ j

-- a look-up found this window, which begins at the greatest age or before it
pub record FindsOfLength (lengths : ℕ → ℕ) (i wanted : ℕ) (spot : Spot) : Type 0 where
  pub window : IsWindow lengths spot
  pub first : IsFirstOfLength lengths i wanted spot.index
  pub early : spot.start ≤ MOST_VALUES

-- every window, from window i on, that has at least a length begins past the greatest age
abbrev pub NoneOfLength : (ℕ → ℕ) → ℕ → ℕ → Type 0
NoneOfLength lengths i wanted = (j : ℕ) → i ≤ j → wanted ≤ lengths j → MOST_VALUES < cut lengths j

-- from n values on, the positions l to r first lie in one target window when m values have been taken
pub record IsFirstFit (lengths : ℕ → ℕ) (l r n m : ℕ) : Type 0 where
  pub reached : n ≤ m
  pub fits : Fits lengths l r m
  pub least : (k : ℕ) → n ≤ k → Fits lengths l r k → m ≤ k
