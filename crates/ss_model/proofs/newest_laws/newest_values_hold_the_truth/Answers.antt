use Rattle.ss_model.proofs.Common.{AreLandmarks, newest_of}
use Rattle.ss_model.proofs.HistoryLemmas.{IsState-state}
use Rattle.ss_model.proofs.NewestLemmas.{HoldsOf, newest_in-holds, newest_of-holds}
use Rattle.ss_model.proofs.ReadLemmas.{All-state}
use Rattle.ss_model.proofs.newest_laws.newest_values_hold_the_truth.Goals as goal

pub returns-clause-each : goal.returns-clause-each
returns-clause-each c history whole k d below =
    All-state (λ s. AreLandmarks s.landmarks → HoldsOf history s.name (newest_of s)) history (λ s order. newest_of-holds history s whole order) k d below
    ((IsState-state history whole).each k d below).landmarks

pub returns-clause-named : goal.returns-clause-named
returns-clause-named c = newest_in-holds
