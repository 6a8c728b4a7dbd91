use Rattle.ss_laws.proofs.ContentsLemmas.{AreContents-rebuilt, Like-rebuilt, count_in-rebuilt, sum_in-rebuilt}
use Rattle.ss_laws.proofs.content_laws.rebuilt_is_like.Goals as goal

pub returns-clause-sound : goal.returns-clause-sound
returns-clause-sound c = AreContents-rebuilt

pub returns-clause-like : goal.returns-clause-like
returns-clause-like c = Like-rebuilt

pub returns-clause-count : goal.returns-clause-count
returns-clause-count c = count_in-rebuilt

pub returns-clause-sum : goal.returns-clause-sum
returns-clause-sum c = sum_in-rebuilt
