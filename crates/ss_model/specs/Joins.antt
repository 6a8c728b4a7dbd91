-- Windows that come from others by joining neighbours that are due.
use Rattle.std.specs.Prelude.{◌≡◌, ℕ, zero, suc, true, List, ◌∷◌, ◌++◌}
use Rattle.ss_model.specs.Closed.{joined_window, may_join}
use Rattle.ss_targets.specs.Rule.{Rule}
use Rattle.ss_model.specs.declared.types.Window.{Window}

-- one join: two neighbours that may be one at n become one, and the others stay
pub record JoinsTwo (rule : Rule) (n : ℕ) (old new : List Window) : Type 0 where
  pub before : List Window
  pub window : Window
  pub next : Window
  pub rest : List Window
  pub was : old ≡ before ++ window ∷ next ∷ rest
  pub is : new ≡ before ++ joined_window window next ∷ rest
  pub due : may_join rule n window next ≡ true

-- so many joins, one after another
abbrev pub Joins : Rule → ℕ → ℕ → List Window → List Window → Type 0
Joins rule n zero old new = old ≡ new
Joins rule n (suc k) old new = (between : List Window) × JoinsTwo rule n old between × Joins rule n k between new

-- any number of joins, of whichever neighbours are due, in whichever order
abbrev pub JoinsDue : Rule → ℕ → List Window → List Window → Type 0
JoinsDue rule n old new = (k : ℕ) × Joins rule n k old new
