use Rattle.ss_model.proofs.AnswerLemmas.{answer-known, refused-alike}
use Rattle.ss_model.proofs.answer_laws.queries_are_refused_or_answered.Goals as goal

pub returns-clause-answered : goal.returns-clause-answered
returns-clause-answered c = answer-known

pub returns-clause-outlines : goal.returns-clause-outlines
returns-clause-outlines c = refused-alike
