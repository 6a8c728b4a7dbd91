-- What is known of two values, each of which may be missing.
use Rattle.std.specs.Prelude.{Bool, if◌then◌else◌, ℤ, List, [], ◌∷◌, Option, None, Some}
use Rattle.std.specs.Int.{int_min, int_max}
use Rattle.ss_bounds.specs.declared.extreme.Extreme.{Extreme}
use Rattle.ss_bounds.specs.declared.extreme.Extreme.TheVariants.{Nothing, Sure, Maybe}
use Rattle.ss_bounds.specs.Split.{SplitFigures}
use Rattle.ss_bounds.specs.Extremes.{chosen}

-- the choice between two; one alone where the other is missing
abbrev pub either : (ℤ → ℤ → ℤ) → Option ℤ → Option ℤ → Option ℤ
either choice None b = b
either choice (Some a) None = Some a
either choice (Some a) (Some b) = Some (choice a b)

-- the lesser of two, and the greater
abbrev pub lesser : Option ℤ → Option ℤ → Option ℤ
lesser = either int_min

abbrev pub greater : Option ℤ → Option ℤ → Option ℤ
greater = either int_max

-- the choice from a list, if it isn't empty
abbrev pub choice_in : (ℤ → ℤ → ℤ) → List ℤ → Option ℤ
choice_in choice [] = None
choice_in choice (v ∷ vs) = Some (chosen choice v vs)

-- the least of a list, and the greatest
abbrev pub least_in : List ℤ → Option ℤ
least_in = choice_in int_min

abbrev pub greatest_in : List ℤ → Option ℤ
greatest_in = choice_in int_max

-- what stands, if it passes the test
abbrev pub passing : {A : Type 0} → (A → Bool) → Option A → Option A
passing test None = None
passing test (Some a) = if test a then Some a else None

-- the least and the greatest value of a window
abbrev pub extremes_of : SplitFigures → ℤ × ℤ
extremes_of s = (s.min, s.max)

-- the interval that is sure, if there is one, or else the one that may be
abbrev pub extreme_of : Option (ℤ × ℤ) → Option (ℤ × ℤ) → Extreme
extreme_of (Some sure) maybe = Sure sure.0 sure.1
extreme_of None (Some maybe) = Maybe maybe.0 maybe.1
extreme_of None None = Nothing
