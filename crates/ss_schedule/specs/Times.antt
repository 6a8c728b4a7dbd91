-- Windows by the times at which they begin.
use Rattle.std.specs.Prelude.{◌≡◌, ℕ, ◌<◌, ◌≤◌, List, ◌∷◌, ◌++◌, All, Option, Some, None}
use Rattle.ss_line.specs.declared.entry.At.{At}

-- the window at this place begins at this time or before it, and all behind it begin later
pub record IsLastBy (t : ℕ) (entries : List (ℕ × At)) (at : At) : Type 0 where
  pub before : List (ℕ × At)
  pub time : ℕ
  pub behind : List (ℕ × At)
  pub is : entries ≡ before ++ (time, at) ∷ behind
  pub begun : time ≤ t
  pub later : All (λ e. t < e.0) behind

-- the last of these windows that doesn't begin after this time; none if all do
abbrev pub IsSought : ℕ → List (ℕ × At) → Option At → Type 0
IsSought t entries None = All (λ e. t < e.0) entries
IsSought t entries (Some at) = IsLastBy t entries at
