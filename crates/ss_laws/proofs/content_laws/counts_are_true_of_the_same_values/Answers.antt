use Rattle.ss_laws.proofs.MovedLemmas.{AreContents-moved, AreIndistinguishable-moved, MayBeCounted-true, count_in-moved}
use Rattle.ss_laws.proofs.content_laws.counts_are_true_of_the_same_values.Goals as goal

pub returns-clause-sound : goal.returns-clause-sound
returns-clause-sound c = AreContents-moved

pub returns-clause-kept : goal.returns-clause-kept
returns-clause-kept c = AreIndistinguishable-moved

pub returns-clause-count : goal.returns-clause-count
returns-clause-count c contents others from to sound other like = count_in-moved contents others sound other like from to

pub returns-clause-may_be : goal.returns-clause-may_be
returns-clause-may_be c = MayBeCounted-true
