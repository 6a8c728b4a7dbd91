-- The likeliest number of an answer lies between its ends.
use Rattle.std.specs.Prelude.{◌≤ℤ◌}
use Rattle.ss_bounds.specs.MeanGuess.{LiesBetween}
use Rattle.ss_model.specs.declared.outcome.Outcome.{Outcome}
use Rattle.ss_model.specs.declared.outcome.Outcome.TheVariants.{Estimate, MeanEstimate}

-- an answer has a guess, which lies between its ends
abbrev pub GuessLiesBetween : Outcome → Type 0
GuessLiesBetween (Estimate lo guess hi) = (lo ≤ℤ guess) × (guess ≤ℤ hi)
GuessLiesBetween (MeanEstimate known) = LiesBetween known
GuessLiesBetween _ = ⊥
