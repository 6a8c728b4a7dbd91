-- The likeliest mean of the values in a range: the likeliest sum over the likeliest count, brought between the ends.
use Rattle.std.specs.Prelude.{max, if◌then◌else◌, pos, unsigned_abs, List}
use Rattle.ss_bounds.specs.declared.fraction.Fraction.{Fraction}
use Rattle.ss_bounds.specs.declared.mean.Mean.{Mean}
use Rattle.ss_bounds.specs.declared.mean.Mean.TheVariants as means
use Rattle.ss_bounds.specs.declared.mean.MeanGuess.{MeanGuess}
use Rattle.ss_bounds.specs.declared.mean.MeanGuess.TheVariants.{Nothing, Sure, Maybe}
use Rattle.ss_bounds.specs.Fractions.{at_most, lowest, IsAtMost}
use Rattle.ss_bounds.specs.Guess.{count_guess, sum_guess}
use Rattle.ss_bounds.specs.Means.{mean_interval}
use Rattle.ss_bounds.specs.MeanTruth.{HoldsMean}
use Rattle.ss_bounds.specs.Split.{SplitFigures}

-- the guess of the sum over the guess of the count, each rounded once; a count that is guessed as 0 counts as 1
abbrev pub quotient_guess : Fraction → List SplitFigures → Fraction
quotient_guess known splits =
    record { over = sum_guess known.over splits; under = max 1 (unsigned_abs (count_guess (pos known.under) splits)) }

-- a fraction brought between two ends: the nearer end, where it lies beyond it
abbrev pub brought : Fraction → Fraction → Fraction → Fraction
brought lo hi a = if at_most a lo then lo else if at_most hi a then hi else a

-- an interval with a guess, brought between its ends
abbrev pub with_guess : Fraction → Mean → MeanGuess
with_guess guess means.Nothing = Nothing
with_guess guess (means.Sure lo hi) = Sure lo (brought lo hi guess) hi
with_guess guess (means.Maybe lo hi) = Maybe lo (brought lo hi guess) hi

-- what is known of the mean with the likeliest one, in lowest terms, from the sum and the count of what is known and from the split windows
unfoldable pub mean_guess : Fraction → List SplitFigures → MeanGuess
mean_guess known splits = with_guess (lowest (quotient_guess known splits)) (mean_interval known splits)

-- what is known of the mean, without the guess
abbrev pub unguessed_mean : MeanGuess → Mean
unguessed_mean Nothing = means.Nothing
unguessed_mean (Sure lo guess hi) = means.Sure lo hi
unguessed_mean (Maybe lo guess hi) = means.Maybe lo hi

-- the guess lies between the ends
abbrev pub LiesBetween : MeanGuess → Type 0
LiesBetween Nothing = Unit {0}
LiesBetween (Sure lo guess hi) = IsAtMost lo guess × IsAtMost guess hi
LiesBetween (Maybe lo guess hi) = IsAtMost lo guess × IsAtMost guess hi

-- what is known of a mean is true of that of some values, or of there being none, and the guess lies between the ends as theirs does
pub record HoldsMeanGuess (m : MeanGuess) (values : Fraction) : Type 0 where
  pub truth : HoldsMean (unguessed_mean m) values
  pub guess : LiesBetween m
