use Rattle.ss_laws.proofs.ContentsLemmas.{MayBeTrue-count, MayBeTrue-sum}
use Rattle.ss_laws.proofs.content_laws.fitting_answers_may_be_true.Goals as goal

pub returns-clause-count : goal.returns-clause-count
returns-clause-count c = MayBeTrue-count

pub returns-clause-sum : goal.returns-clause-sum
returns-clause-sum c = MayBeTrue-sum
