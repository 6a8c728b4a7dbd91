use Rattle.ss_model.proofs.AnswerLemmas.{answer-ends}
use Rattle.ss_model.proofs.answer_laws.estimates_have_the_ends.Goals as goal

pub returns : goal.returns
returns c = answer-ends
