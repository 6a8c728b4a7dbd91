use Rattle.std.proofs.Common.{ap, ap₂, subst, sym, ◌∙◌}
use Rattle.std.specs.Prelude.{◌<◌}
use Rattle.ss_bounds.specs.declared.fraction.Fraction.{Fraction}
use Rattle.ss_bounds.specs.declared.mean.MeanGuess.TheVariants as guesses
use Rattle.ss_bounds.specs.Fractions.{lowest}
use Rattle.ss_bounds.specs.MeanGuess.{mean_guess, with_guess}
use Rattle.ss_bounds.proofs.LowestLemmas.{IsLowest-lowest}
use Rattle.ss_bounds.proofs.MeanGuessLemmas.{AreOver, mean_interval-AreOver}
use Rattle.ss_bounds.proofs.likeliest.mean_guess.Goals as goal

pub brought-requires-clause-low : goal.brought-requires-clause-low
brought-requires-clause-low c = (subst AreOver (sym c.in-Sure.ensures) (mean_interval-AreOver _ _)).0

pub brought-requires-clause-high : goal.brought-requires-clause-high
brought-requires-clause-high c = (subst AreOver (sym c.in-Sure.ensures) (mean_interval-AreOver _ _)).1

pub brought-requires-clause-some : goal.brought-requires-clause-some
brought-requires-clause-some c =
    subst (λ (f : Fraction). 0 < f.under) (sym c.lowest-guess.ensures)
    (IsLowest-lowest c.quotient_guess.result c.quotient_guess.ensures.some).some

pub brought-requires-in-Maybe-clause-low : goal.brought-requires-in-Maybe-clause-low
brought-requires-in-Maybe-clause-low c = (subst AreOver (sym c.in-Maybe.ensures) (mean_interval-AreOver _ _)).0

pub brought-requires-in-Maybe-clause-high : goal.brought-requires-in-Maybe-clause-high
brought-requires-in-Maybe-clause-high c = (subst AreOver (sym c.in-Maybe.ensures) (mean_interval-AreOver _ _)).1

pub brought-requires-in-Maybe-clause-some : goal.brought-requires-in-Maybe-clause-some
brought-requires-in-Maybe-clause-some c =
    subst (λ (f : Fraction). 0 < f.under) (sym c.lowest-guess.ensures)
    (IsLowest-lowest c.quotient_guess.result c.quotient_guess.ensures.some).some

pub returns-in-Nothing : goal.returns-in-Nothing
unfolding mean_guess
returns-in-Nothing c = ap₂ with_guess (c.lowest-guess.ensures ∙ ap lowest c.quotient_guess.ensures.value) c.in-Nothing.ensures

pub returns-in-Sure : goal.returns-in-Sure
unfolding mean_guess
returns-in-Sure c =
    ap (λ (guess : Fraction). guesses.Sure c.in-Sure.lo guess c.in-Sure.hi) c.brought.ensures
    ∙ ap₂ with_guess (c.lowest-guess.ensures ∙ ap lowest c.quotient_guess.ensures.value) c.in-Sure.ensures

pub returns-in-Maybe : goal.returns-in-Maybe
unfolding mean_guess
returns-in-Maybe c =
    ap (λ (guess : Fraction). guesses.Maybe c.in-Maybe.lo guess c.in-Maybe.hi) c.brought-in-Maybe.ensures
    ∙ ap₂ with_guess (c.lowest-guess.ensures ∙ ap lowest c.quotient_guess.ensures.value) c.in-Maybe.ensures
