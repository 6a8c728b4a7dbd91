-- Several intervals, as those of several streams: what is known of the sum of the numbers that they hold, and of the least and the
-- greatest.
use Rattle.std.specs.Prelude.{ℕ, ◌≤◌, ℤ, ◌≤ℤ◌, List, [], ◌∷◌, map, sum_by, Option, None}
use Rattle.std.specs.Int.{int_min, int_max}
use Rattle.ss_bounds.specs.declared.extreme.Extreme.{Extreme}
use Rattle.ss_bounds.specs.declared.extreme.Extreme.TheVariants.{Nothing, Sure, Maybe}
use Rattle.ss_bounds.specs.Either.{lesser, greater}
use Rattle.ss_bounds.specs.Truth.{total}

-- an interval holds a number: of counts, and of sums
abbrev pub HoldsCount : ℕ × ℕ → ℕ → Type 0
HoldsCount counts truth = (counts.0 ≤ truth) × (truth ≤ counts.1)

abbrev pub HoldsSum : ℤ × ℤ → ℤ → Type 0
HoldsSum sums truth = (sums.0 ≤ℤ truth) × (truth ≤ℤ sums.1)

-- each comes with what it is known of, and holds it
abbrev pub EachHolds : {A T : Type 0} → (A → T → Type 0) → List (A × T) → Type 0
EachHolds Holds [] = Unit {0}
EachHolds Holds (known ∷ rest) = Holds known.0 known.1 × EachHolds Holds rest

-- what is known, and what it is known of
abbrev pub known : {A T : Type 0} → List (A × T) → List A
known each = map (λ k. k.0) each

abbrev pub truths : {A T : Type 0} → List (A × T) → List T
truths each = map (λ k. k.1) each

-- the sum of several intervals
abbrev pub sum_of_counts : List (ℕ × ℕ) → ℕ × ℕ
sum_of_counts all = (sum_by (λ (i : ℕ × ℕ). i.0) all, sum_by (λ (i : ℕ × ℕ). i.1) all)

abbrev pub sum_of_sums : List (ℤ × ℤ) → ℤ × ℤ
sum_of_sums all = (total (map (λ (i : ℤ × ℤ). i.0) all), total (map (λ (i : ℤ × ℤ). i.1) all))

-- what is known of the lesser of two values, from what is known of each. A value that may not be there bounds it from below alone,
-- where the other one is there.
abbrev pub lesser_of : Extreme → Extreme → Extreme
lesser_of Nothing b = b
lesser_of (Sure l h) Nothing = Sure l h
lesser_of (Sure l h) (Sure m i) = Sure (int_min l m) (int_min h i)
lesser_of (Sure l h) (Maybe m i) = Sure (int_min l m) h
lesser_of (Maybe l h) Nothing = Maybe l h
lesser_of (Maybe l h) (Sure m i) = Sure (int_min l m) i
lesser_of (Maybe l h) (Maybe m i) = Maybe (int_min l m) (int_max h i)

-- and of the greater of two
abbrev pub greater_of : Extreme → Extreme → Extreme
greater_of Nothing b = b
greater_of (Sure l h) Nothing = Sure l h
greater_of (Sure l h) (Sure m i) = Sure (int_max l m) (int_max h i)
greater_of (Sure l h) (Maybe m i) = Sure l (int_max h i)
greater_of (Maybe l h) Nothing = Maybe l h
greater_of (Maybe l h) (Sure m i) = Sure m (int_max h i)
greater_of (Maybe l h) (Maybe m i) = Maybe (int_min l m) (int_max h i)

-- of several
abbrev pub least_of_all : List Extreme → Extreme
least_of_all [] = Nothing
least_of_all (e ∷ es) = lesser_of e (least_of_all es)

abbrev pub greatest_of_all : List Extreme → Extreme
greatest_of_all [] = Nothing
greatest_of_all (e ∷ es) = greater_of e (greatest_of_all es)

-- the least of several values, each of which may be missing, and the greatest
abbrev pub least_truth : List (Option ℤ) → Option ℤ
least_truth [] = None
least_truth (v ∷ vs) = lesser v (least_truth vs)

abbrev pub greatest_truth : List (Option ℤ) → Option ℤ
greatest_truth [] = None
greatest_truth (v ∷ vs) = greater v (greatest_truth vs)
