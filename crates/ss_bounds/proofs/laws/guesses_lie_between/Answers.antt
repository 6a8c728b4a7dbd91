use Rattle.ss_bounds.proofs.GuessLemmas.{count_guess-within, sum_guess-within}
use Rattle.ss_bounds.proofs.laws.guesses_lie_between.Goals as goal

pub returns-clause-counts : goal.returns-clause-counts
returns-clause-counts c = count_guess-within

pub returns-clause-sums : goal.returns-clause-sums
returns-clause-sums c = sum_guess-within
