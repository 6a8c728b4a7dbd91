use Rattle.ss_model.proofs.IntervalLemmas.{count-exact, sum-exact, least-exact, greatest-exact}
use Rattle.ss_model.proofs.MeanLemmas.{mean-exact}
use Rattle.ss_model.proofs.query_laws.unsplit_answers_are_exact.Goals as goal

pub returns-clause-count : goal.returns-clause-count
returns-clause-count c = count-exact

pub returns-clause-sum : goal.returns-clause-sum
returns-clause-sum c = sum-exact

pub returns-clause-least : goal.returns-clause-least
returns-clause-least c = least-exact

pub returns-clause-greatest : goal.returns-clause-greatest
returns-clause-greatest c = greatest-exact

pub returns-clause-mean : goal.returns-clause-mean
returns-clause-mean c = mean-exact
