use Rattle.ss_laws.proofs.ContentsLemmas.{count_in-lies, sum_in-lies}
use Rattle.ss_laws.proofs.content_laws.intervals_hold_for_all_that_are_like.Goals as goal

pub returns-clause-count : goal.returns-clause-count
returns-clause-count c = count_in-lies

pub returns-clause-sum : goal.returns-clause-sum
returns-clause-sum c = sum_in-lies
