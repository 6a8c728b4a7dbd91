use Rattle.ss_model.proofs.AnswerLemmas.{answer-holds, answer-kind, answer-exact}
use Rattle.ss_model.proofs.answer_laws.outcomes_hold_the_truth.Goals as goal

pub returns-clause-truth : goal.returns-clause-truth
returns-clause-truth c = answer-holds

pub returns-clause-kind : goal.returns-clause-kind
returns-clause-kind c = answer-kind

pub returns-clause-exact : goal.returns-clause-exact
returns-clause-exact c = answer-exact
