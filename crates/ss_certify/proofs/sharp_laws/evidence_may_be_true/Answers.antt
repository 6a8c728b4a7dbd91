use Rattle.ss_certify.proofs.SharpLemmas.{MayBeAnswer-answer, end_asked-answer}
use Rattle.ss_certify.proofs.sharp_laws.evidence_may_be_true.Goals as goal

pub returns-clause-truth : goal.returns-clause-truth
returns-clause-truth c = MayBeAnswer-answer

pub returns-clause-end : goal.returns-clause-end
returns-clause-end c streams query s end w outcome found is evidence = end_asked-answer streams query s end w found evidence is outcome
