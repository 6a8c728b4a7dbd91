use Rattle.ss_bounds.proofs.MeanGuessLemmas.{mean_guess-between, mean_guess-ends, mean_guess-known}
use Rattle.ss_bounds.proofs.mean_laws.guesses_of_means_lie_between.Goals as goal

pub returns-clause-ends : goal.returns-clause-ends
returns-clause-ends c = mean_guess-ends

pub returns-clause-between : goal.returns-clause-between
returns-clause-between c = mean_guess-between

pub returns-clause-known : goal.returns-clause-known
returns-clause-known c = mean_guess-known
