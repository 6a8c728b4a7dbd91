-- Worked rows of the likeliest mean, each computed.
use Rattle.std.specs.Prelude.{◌≡◌, ℕ, ℤ, pos, negsuc, [], ◌∷◌, List, map}
use Rattle.std.proofs.Common.{arith, refl}
use Rattle.std.proofs.lemmas.Int.{ints}
use Rattle.ss_bounds.specs.declared.mean.Mean.TheVariants as means
use Rattle.ss_bounds.specs.declared.mean.MeanGuess.{MeanGuess}
use Rattle.ss_bounds.specs.declared.mean.MeanGuess.TheVariants.{Nothing, Sure, Maybe}
use Rattle.ss_bounds.specs.Fractions.{lowest}
use Rattle.ss_bounds.specs.MeanGuess.{HoldsMeanGuess, LiesBetween, brought, mean_guess, quotient_guess, unguessed_mean}
use Rattle.ss_bounds.specs.Means.{mean_interval}
use Rattle.ss_bounds.specs.Split.{SplitFigures}
use Rattle.ss_bounds.proofs.MeanRows.{four, fraction, pair, three, two}

abbrev guess_at : ℤ → ℕ → List SplitFigures → MeanGuess
guess_at over under splits = mean_guess (fraction over under) splits

-- of four values with the sum 11 two are guessed from 10 to 25, with the sum 6: that is 3; and beside a known 1 three with 7
guesses-four : guess_at (pos 0) 0 (four 1 15 14 ∷ []) ∷ guess_at (pos 1) 1 (four 1 15 14 ∷ []) ∷ []
    ≡ Sure (fraction (negsuc 2) 1) (fraction (pos 3) 1) (fraction (pos 8) 1) ∷ Sure (fraction (negsuc 3) 3) (fraction (pos 7) 3) (fraction (pos 17) 3) ∷ []
unfolding mean_guess mean_interval lowest
guesses-four = refl

-- two windows: three with the sum 11; and one alone, of which 5 1/2 are guessed as the even 6
guesses-both : guess_at (pos 0) 0 (four 1 15 14 ∷ two ∷ []) ∷ guess_at (pos 0) 0 (two ∷ []) ∷ []
    ≡ Sure (fraction (negsuc 0) 1) (fraction (pos 11) 3) (fraction (pos 17) 2) ∷ Sure (fraction (pos 2) 1) (fraction (pos 6) 1) (fraction (pos 9) 1) ∷ []
unfolding mean_guess mean_interval lowest
guesses-both = refl

-- a count that is guessed as 0 counts as 1: half a value of three is the even 0, with the sum 1 as a sixth of 6
quotients-none : quotient_guess (fraction (pos 0) 0) (three 0 2 2 ∷ []) ∷ quotient_guess (fraction (pos 0) 0) (three 0 4 0 ∷ []) ∷ []
    ≡ fraction (pos 1) 1 ∷ fraction (pos 2) 1 ∷ []
quotients-none = refl

guesses-none : guess_at (pos 0) 0 (three 0 2 2 ∷ []) ≡ Maybe (fraction (pos 0) 1) (fraction (pos 1) 1) (fraction (pos 6) 1)
unfolding mean_guess mean_interval lowest
guesses-none = refl

-- a guess in lowest terms, which isn't rounded again: 6 over 4
quotients-halves : quotient_guess (fraction (pos 6) 4) [] ≡ fraction (pos 6) 4
quotients-halves = refl

guesses-known : guess_at (pos 6) 4 [] ∷ guess_at (pos 0) 0 [] ∷ guess_at (pos 0) 0 (pair 0 ∷ []) ∷ []
    ≡ Sure (fraction (pos 3) 2) (fraction (pos 3) 2) (fraction (pos 3) 2) ∷ Nothing ∷ Nothing ∷ []
unfolding mean_guess mean_interval lowest
guesses-known = refl

-- three values with the sum -16, the least -6 and the greatest -5: a quarter of them, one with -4, is above the greatest; and of the
-- same with other signs below the least
abbrev near : ℤ → ℤ → ℤ → SplitFigures
near sum min max = record { count = 3; sum = sum; min = min; max = max; ends = 0; inside = 3; outside = 1 }

quotients-near : quotient_guess (fraction (pos 0) 0) (near (negsuc 15) (negsuc 5) (negsuc 4) ∷ []) ≡ fraction (negsuc 3) 1
quotients-near = refl

guesses-near : guess_at (pos 0) 0 (near (negsuc 15) (negsuc 5) (negsuc 4) ∷ []) ∷ guess_at (pos 0) 0 (near (pos 16) (pos 5) (pos 6) ∷ []) ∷ []
    ≡ Maybe (fraction (negsuc 5) 1) (fraction (negsuc 4) 1) (fraction (negsuc 4) 1) ∷ Maybe (fraction (pos 5) 1) (fraction (pos 5) 1) (fraction (pos 6) 1) ∷ []
unfolding mean_guess mean_interval lowest
guesses-near = refl

-- brought between 1/2 and 3/2: what is below, the ends, what is between, and what is above
brought-each : map (brought (fraction (pos 1) 2) (fraction (pos 3) 2))
    (fraction (pos 0) 1 ∷ fraction (pos 1) 2 ∷ fraction (pos 1) 1 ∷ fraction (pos 3) 2 ∷ fraction (pos 2) 1 ∷ [])
    ≡ fraction (pos 1) 2 ∷ fraction (pos 1) 2 ∷ fraction (pos 1) 1 ∷ fraction (pos 3) 2 ∷ fraction (pos 3) 2 ∷ []
brought-each = refl

-- without the guess it is the interval
unguessed-each : map unguessed_mean (Nothing ∷ Sure (fraction (pos 1) 2) (fraction (pos 1) 1) (fraction (pos 3) 2)
    ∷ Maybe (fraction (pos 1) 2) (fraction (pos 1) 1) (fraction (pos 3) 2) ∷ [])
    ≡ means.Nothing ∷ means.Sure (fraction (pos 1) 2) (fraction (pos 3) 2) ∷ means.Maybe (fraction (pos 1) 2) (fraction (pos 3) 2) ∷ []
unguessed-each = refl

-- a guess is between its ends, or one of them, and no more
LiesBetween-end : LiesBetween (Sure (fraction (pos 1) 2) (fraction (pos 1) 2) (fraction (pos 3) 2))
LiesBetween-end = (record { crosswise = omega (arith, ints) }, record { crosswise = omega (arith, ints) })

LiesBetween-below : LiesBetween (Sure (fraction (pos 1) 2) (fraction (pos 1) 3) (fraction (pos 3) 2)) → ⊥
LiesBetween-below lies = let low = lies.0.crosswise in omega (arith, ints)

LiesBetween-above : LiesBetween (Maybe (fraction (pos 1) 2) (fraction (pos 5) 3) (fraction (pos 3) 2)) → ⊥
LiesBetween-above lies = let high = lies.1.crosswise in omega (arith, ints)

-- the truth 4 over 3 is held by these ends, and none by no value
HoldsMeanGuess-between : HoldsMeanGuess (Sure (fraction (pos 1) 2) (fraction (pos 1) 1) (fraction (pos 3) 2)) (fraction (pos 4) 3)
HoldsMeanGuess-between = record {
  truth = (omega arith, record { crosswise = omega (arith, ints) }, record { crosswise = omega (arith, ints) });
  guess = (record { crosswise = omega (arith, ints) }, record { crosswise = omega (arith, ints) });
}

HoldsMeanGuess-above : HoldsMeanGuess (Sure (fraction (pos 1) 2) (fraction (pos 1) 1) (fraction (pos 3) 2)) (fraction (pos 5) 3) → ⊥
HoldsMeanGuess-above holds = let high = holds.truth.2.crosswise in omega (arith, ints)
