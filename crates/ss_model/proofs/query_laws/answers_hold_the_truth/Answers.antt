use Rattle.ss_model.proofs.Common.{windows}
use Rattle.ss_model.proofs.IntervalLemmas.{count-lies, sum-lies, least-HoldsExtreme, greatest-HoldsExtreme}
use Rattle.ss_model.proofs.MeanLemmas.{mean-HoldsMean}
use Rattle.ss_model.proofs.PieceLemmas.{AreExactlyOf-windows, AreOf-windows}
use Rattle.ss_model.proofs.PresenceLemmas.{presence-holds}
use Rattle.ss_model.proofs.query_laws.answers_hold_the_truth.Goals as goal

pub returns-clause-count : goal.returns-clause-count
returns-clause-count c rule free from to plain marked = count-lies free from to (windows rule plain) plain marked 0 (AreOf-windows rule plain)

pub returns-clause-sum : goal.returns-clause-sum
returns-clause-sum c rule free from to plain marked = sum-lies free from to (windows rule plain) plain marked 0 (AreOf-windows rule plain)

pub returns-clause-least : goal.returns-clause-least
returns-clause-least c rule free from to plain marked = least-HoldsExtreme free from to (windows rule plain) plain marked 0 (AreOf-windows rule plain)

pub returns-clause-greatest : goal.returns-clause-greatest
returns-clause-greatest c rule free from to plain marked = greatest-HoldsExtreme free from to (windows rule plain) plain marked 0 (AreOf-windows rule plain)

pub returns-clause-mean : goal.returns-clause-mean
returns-clause-mean c rule free from to plain marked = mean-HoldsMean free from to (windows rule plain) plain marked 0 (AreOf-windows rule plain)

pub returns-clause-presence : goal.returns-clause-presence
returns-clause-presence c value rule free from to plain marked =
    presence-holds value free from to (windows rule plain) plain marked 0 (AreExactlyOf-windows rule plain)
