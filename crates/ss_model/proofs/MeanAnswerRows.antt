-- Worked rows of means that states answer, each computed from a history.
use Rattle.ss_model.proofs.Common.{ℤ, Option, codes, arith, refl, ints, Create, Value, Open, Close, exp, power, Kind, Query, New, Happened, added}
use Rattle.ss_model.proofs.Common.{HasEnds, HoldsTruth, IsExactOutcome, Outcome}
use Rattle.std.specs.Prelude.{◌≡◌, ℕ, pos, negsuc, List, [], ◌∷◌, map, Some}
use Rattle.ss_targets.specs.Windowing.{window_index}
use Rattle.ss_targets.specs.Power.{power_length}
use Rattle.ss_catalog.specs.declared.query.Kind.TheVariants as kinds
use Rattle.ss_bounds.specs.declared.fraction.Fraction.{Fraction}
use Rattle.ss_bounds.specs.declared.mean.Mean.TheVariants.{Nothing, Sure, Maybe}
use Rattle.ss_bounds.specs.declared.mean.MeanGuess.TheVariants as guesses
use Rattle.ss_bounds.specs.Fractions.{lowest}
use Rattle.ss_bounds.specs.MeanGuess.{mean_guess}
use Rattle.ss_bounds.specs.Means.{mean_interval}
use Rattle.ss_model.specs.Answers.{interval_query, outcome_of}
use Rattle.ss_model.specs.State.{state}
use Rattle.ss_model.specs.declared.outcome.Outcome.TheVariants.{Count, Mean, MeanEstimate}

abbrev a : List ℕ
a = codes "a"

abbrev asks : Kind → ℕ → ℕ → Query
asks kind from to = record { name = a; kind = kind; from = from; to = to }

abbrev means : List Happened → List (ℕ × ℕ) → List (Option Outcome)
means history ranges = map (λ (r : ℕ × ℕ). outcome_of (state history) (asks kinds.Mean r.0 r.1)) ranges

abbrev guessed : List Happened → List (ℕ × ℕ) → List (Option Outcome)
guessed history ranges = map (λ (r : ℕ × ℕ). outcome_of (state history) (asks kinds.MeanGuess r.0 r.1)) ranges

abbrev fraction : ℤ → ℕ → Fraction
fraction over under = record { over = over; under = under }

abbrev sure : ℤ → ℕ → ℤ → ℕ → Option Outcome
sure over under over_hi under_hi = Some (Mean (Sure (fraction over under) (fraction over_hi under_hi)))

abbrev maybe : ℤ → ℕ → ℤ → ℕ → Option Outcome
maybe over under over_hi under_hi = Some (Mean (Maybe (fraction over under) (fraction over_hi under_hi)))

abbrev none : Option Outcome
none = Some (Mean Nothing)

-- a stream and seven readings: windows of four values, of two and of one
abbrev readings : List Happened
readings = map added (
    Create a (exp 2 1 1) ∷ Value a 10 (pos 5) ∷ Value a 20 (negsuc 2) ∷ Value a 30 (pos 8) ∷ Value a 40 (pos 1)
    ∷ Value a 50 (pos 9) ∷ Value a 60 (pos 2) ∷ Value a 70 (pos 7) ∷ [])

-- one window is split, both, the second one, none, and none; where no value may lie, any of the window's; and none is there
means-readings : means readings ((10, 25) ∷ (25, 55) ∷ (45, 55) ∷ (50, 70) ∷ (0, 100) ∷ (15, 34) ∷ (71, 80) ∷ []) ≡
    sure (negsuc 2) 1 (pos 8) 1 ∷ sure (negsuc 0) 1 (pos 17) 2 ∷ sure (pos 2) 1 (pos 9) 1 ∷ sure (pos 6) 1 (pos 6) 1
    ∷ sure (pos 29) 7 (pos 29) 7 ∷ maybe (negsuc 2) 1 (pos 8) 1 ∷ none ∷ []
unfolding outcome_of state window_index mean_interval lowest
means-readings = refl

-- the likeliest: 6 over 2, 11 over 3, 6 over 1, 29 over 7, and 4 over 1
guesses-readings : guessed readings ((10, 25) ∷ (25, 55) ∷ (45, 55) ∷ (0, 100) ∷ (15, 34) ∷ (71, 80) ∷ []) ≡
    Some (MeanEstimate (guesses.Sure (fraction (negsuc 2) 1) (fraction (pos 3) 1) (fraction (pos 8) 1)))
    ∷ Some (MeanEstimate (guesses.Sure (fraction (negsuc 0) 1) (fraction (pos 11) 3) (fraction (pos 17) 2)))
    ∷ Some (MeanEstimate (guesses.Sure (fraction (pos 2) 1) (fraction (pos 6) 1) (fraction (pos 9) 1)))
    ∷ Some (MeanEstimate (guesses.Sure (fraction (pos 29) 7) (fraction (pos 29) 7) (fraction (pos 29) 7)))
    ∷ Some (MeanEstimate (guesses.Maybe (fraction (negsuc 2) 1) (fraction (pos 4) 1) (fraction (pos 8) 1)))
    ∷ Some (MeanEstimate guesses.Nothing) ∷ []
unfolding outcome_of state window_index mean_guess mean_interval lowest
guesses-readings = refl

-- two values have none between them
abbrev two_values : List Happened
two_values = map added (Create a (power 1 0 1 2) ∷ Value a 10 (negsuc 3) ∷ Value a 14 (negsuc 0) ∷ [])

means-two : means two_values ((11, 13) ∷ (10, 13) ∷ (10, 14) ∷ []) ≡ none ∷ sure (negsuc 3) 1 (negsuc 0) 1 ∷ sure (negsuc 4) 2 (negsuc 4) 2 ∷ []
unfolding outcome_of state power_length window_index mean_interval lowest
means-two = refl

-- three values, the second at one of four times, beside a landmark's value
abbrev beside : List Happened
beside = map added (
    Create a (power 1 0 1 3) ∷ Value a 1 (pos 0) ∷ Open a 2 ∷ Value a 2 (pos 7) ∷ Close a 4 ∷ Value a 5 (pos 0) ∷ Value a 9 (pos 6) ∷ [])

means-beside : means beside ((3, 4) ∷ (2, 4) ∷ (2, 6) ∷ (5, 6) ∷ (5, 8) ∷ (2, 8) ∷ (0, 6) ∷ []) ≡
    none ∷ sure (pos 7) 1 (pos 7) 1 ∷ sure (pos 7) 2 (pos 7) 1 ∷ maybe (pos 0) 1 (pos 6) 1 ∷ sure (pos 0) 1 (pos 6) 1
    ∷ sure (pos 7) 2 (pos 13) 2 ∷ sure (pos 7) 3 (pos 13) 2 ∷ []
unfolding outcome_of state power_length window_index mean_interval lowest
means-beside = refl

-- an end at neither end of the counts, beside a landmark's 0
abbrev after_break : List Happened
after_break = map added (
    Create a (power 1 0 1 4) ∷ Open a 1 ∷ Value a 1 (pos 0) ∷ Close a 1 ∷ Value a 10 (pos 1) ∷ Value a 20 (pos 1) ∷ Value a 30 (pos 2)
    ∷ Value a 40 (pos 3) ∷ [])

means-after_break : means after_break ((0, 37) ∷ []) ≡ sure (pos 1) 2 (pos 5) 3 ∷ []
unfolding outcome_of state power_length window_index mean_interval lowest
means-after_break = refl

-- of two windows what is taken of one hangs on the other
abbrev two_windows : List Happened
two_windows = map added (
    Create a (power 1 0 1 3) ∷ Value a 10 (pos 0) ∷ Value a 20 (pos 1) ∷ Value a 30 (pos 1) ∷ Value a 40 (pos 0) ∷ Value a 50 (pos 2)
    ∷ Value a 60 (pos 2) ∷ [])

means-two_windows : means two_windows ((12, 58) ∷ (12, 39) ∷ (31, 58) ∷ []) ≡
    sure (pos 0) 1 (pos 5) 3 ∷ sure (pos 0) 1 (pos 1) 1 ∷ sure (pos 0) 1 (pos 2) 1 ∷ []
unfolding outcome_of state power_length window_index mean_interval lowest
means-two_windows = refl

-- of one value, 1 at time 5, an answer is wrong by one at either end, and where it says that there is none
abbrev holds_of_one : Kind → Outcome → Type 0
holds_of_one kind outcome = HoldsTruth (record { name = []; kind = kind; from = 0; to = 9 }) ((5, pos 1, New) ∷ []) [] outcome

truth-mean : holds_of_one kinds.Mean (Mean (Sure (fraction (pos 1) 1) (fraction (pos 1) 1)))
truth-mean = (omega arith, record { crosswise = omega (arith, ints) }, record { crosswise = omega (arith, ints) })

truth-mean_above : holds_of_one kinds.Mean (Mean (Sure (fraction (pos 0) 1) (fraction (pos 0) 1))) → ⊥
truth-mean_above holds = let high = holds.2.crosswise in omega (arith, ints)

truth-mean_below : holds_of_one kinds.Mean (Mean (Maybe (fraction (pos 3) 2) (fraction (pos 2) 1))) → ⊥
truth-mean_below holds = let low = (holds (omega arith)).0.crosswise in omega (arith, ints)

truth-mean_nothing : holds_of_one kinds.Mean (Mean Nothing) → ⊥
truth-mean_nothing holds = omega (arith, holds)

truth-guess_above : holds_of_one kinds.MeanGuess (MeanEstimate (guesses.Sure (fraction (pos 1) 1) (fraction (pos 3) 1) (fraction (pos 2) 1))) → ⊥
truth-guess_above holds = let high = holds.guess.1.crosswise in omega (arith, ints)

-- what leaves something open isn't exact
exact-mean_maybe : IsExactOutcome (Mean (Maybe (fraction (pos 1) 1) (fraction (pos 1) 1))) → ⊥
exact-mean_maybe exact = exact

exact-mean : IsExactOutcome (Mean (Sure (fraction (pos 1) 1) (fraction (pos 2) 1))) → fraction (pos 1) 1 ≡ fraction (pos 2) 1
exact-mean exact = exact

exact-guess : IsExactOutcome (MeanEstimate (guesses.Sure (fraction (pos 1) 1) (fraction (pos 2) 1) (fraction (pos 3) 1)))
    → (fraction (pos 1) 1 ≡ fraction (pos 2) 1) × (fraction (pos 2) 1 ≡ fraction (pos 3) 1)
exact-guess exact = exact

exact-guess_maybe : IsExactOutcome (MeanEstimate (guesses.Maybe (fraction (pos 1) 1) (fraction (pos 1) 1) (fraction (pos 1) 1))) → ⊥
exact-guess_maybe exact = exact

-- the likeliest mean has the ends of the mean
ends-mean : HasEnds (MeanEstimate (guesses.Sure (fraction (pos 1) 1) (fraction (pos 2) 1) (fraction (pos 3) 1)))
    (Mean (Sure (fraction (pos 1) 1) (fraction (pos 3) 1)))
ends-mean = refl

ends-mean_other : HasEnds (MeanEstimate guesses.Nothing) (Count 0 0) → ⊥
ends-mean_other ends = ends

unguessed-mean : interval_query (asks kinds.MeanGuess 1 2) ≡ asks kinds.Mean 1 2
unguessed-mean = refl
