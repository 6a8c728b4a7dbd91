-- The truth of a query: the answer over all values that a stream took since it was created, which a store no longer has one by
-- one. The values outside landmarks and those of landmarks are two lists of points.
use Rattle.ss_summary.specs.Points.{Point}
use Rattle.std.specs.Prelude.{◌≡◌, ℕ, ◌+◌, ◌≤◌, Bool, true, ℤ, pos, List, [], ◌∷◌, ◌++◌, length, Option}
use Rattle.std.specs.Ordering.{int_eq}
use Rattle.std.specs.List.{list_any}
use Rattle.ss_bounds.specs.Either.{least_in, greatest_in}
use Rattle.ss_bounds.specs.Truth.{asked, total}
use Rattle.ss_bounds.specs.declared.fraction.Fraction.{Fraction}
use Rattle.ss_catalog.specs.declared.query.Kind.{Kind}
use Rattle.ss_catalog.specs.declared.query.Kind.TheVariants as kinds

-- the values that a query for the times from..=to asks for
abbrev pub all_asked : ℕ → ℕ → List Point → List Point → List ℤ
all_asked from to plain marked = asked from to plain ++ asked from to marked

-- whether a value is one of some
abbrev pub is_one_of : ℤ → List ℤ → Bool
is_one_of v values = list_any (λ value. int_eq value v) values

-- how many they are, their sum, the least and the greatest, where there are any
abbrev pub true_count : ℕ → ℕ → List Point → List Point → ℕ
true_count from to plain marked = length (all_asked from to plain marked)

abbrev pub true_sum : ℕ → ℕ → List Point → List Point → ℤ
true_sum from to plain marked = total (all_asked from to plain marked)

-- both: their mean is the sum over the count
abbrev pub true_values : ℕ → ℕ → List Point → List Point → Fraction
true_values from to plain marked = record { over = true_sum from to plain marked; under = true_count from to plain marked }

-- what a guess of a count or of a sum is of: how many they are, or else their sum
abbrev pub true_amount : Kind → ℕ → ℕ → List Point → List Point → ℤ
true_amount kinds.CountGuess from to plain marked = pos (true_count from to plain marked)
true_amount _ from to plain marked = true_sum from to plain marked

abbrev pub true_least : ℕ → ℕ → List Point → List Point → Option ℤ
true_least from to plain marked = least_in (all_asked from to plain marked)

abbrev pub true_greatest : ℕ → ℕ → List Point → List Point → Option ℤ
true_greatest from to plain marked = greatest_in (all_asked from to plain marked)

-- whether a value is one of them
abbrev pub true_presence : ℤ → ℕ → ℕ → List Point → List Point → Bool
true_presence v from to plain marked = is_one_of v (all_asked from to plain marked)

-- values at rising free times, the first at `start` or later
abbrev pub RiseAtFree : (ℕ → Bool) → ℕ → List Point → Type 0
RiseAtFree free start [] = Unit {0}
RiseAtFree free start (p ∷ ps) = (start ≤ p.0) × (free p.0 ≡ true) × RiseAtFree free (p.0 + 1) ps
