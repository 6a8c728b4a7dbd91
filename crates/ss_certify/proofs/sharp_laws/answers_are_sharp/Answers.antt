use Rattle.ss_certify.proofs.SharpAnswers.{MayBeAnswer-means, MayBeCounted-counts, MayBeTrue-counts, MayBeTrue-sums}
use Rattle.ss_certify.proofs.sharp_laws.answers_are_sharp.Goals as goal

pub returns-clause-count : goal.returns-clause-count
returns-clause-count c = MayBeTrue-counts

pub returns-clause-sum : goal.returns-clause-sum
returns-clause-sum c = MayBeTrue-sums

pub returns-clause-count_with_filters : goal.returns-clause-count_with_filters
returns-clause-count_with_filters c = MayBeCounted-counts

pub returns-clause-mean : goal.returns-clause-mean
returns-clause-mean c = λ streams query known end answered. MayBeAnswer-means streams query known end answered
