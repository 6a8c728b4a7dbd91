use Rattle.ss_model.proofs.Common.{◌≤◌, ◌≤ℤ◌, HoldsExtreme, is_free, rule_of, HoldsPresence, landmarks_of, marked_of, values_of, interval_of_count}
use Rattle.ss_model.proofs.Common.{interval_of_greatest, interval_of_least, interval_of_sum, presence_of, marked_values, true_count, true_greatest}
use Rattle.ss_model.proofs.Common.{true_least, true_presence, true_sum, windows}
use Rattle.ss_model.proofs.IntervalLemmas.{count-lies, sum-lies, least-HoldsExtreme, greatest-HoldsExtreme}
use Rattle.ss_bounds.specs.MeanTruth.{HoldsMean}
use Rattle.ss_model.specs.Interval.{interval_of_mean}
use Rattle.ss_model.specs.Truth.{true_values}
use Rattle.ss_model.proofs.MeanLemmas.{mean-HoldsMean}
use Rattle.ss_model.proofs.PieceLemmas.{AreExactlyOf-windows, AreOf-windows}
use Rattle.ss_model.proofs.PresenceLemmas.{presence-holds}
use Rattle.ss_model.proofs.ReadLemmas.{All-state}
use Rattle.ss_model.proofs.RisingLemmas.{values-rise}
use Rattle.ss_model.proofs.query_laws.answers_hold_the_truth_of_histories.Goals as goal

pub returns-clause-count : goal.returns-clause-count
returns-clause-count c history from to whole =
    All-state (λ s. let answer = interval_of_count (is_free s.landmarks) from to s.windows (marked_values s.landmarks) in
    let truth = true_count from to (values_of history s.name) (marked_of history s.name) in (answer.0 ≤ truth) × (truth ≤ answer.1)) history
    (λ s. count-lies (is_free (landmarks_of history s.name)) from to (windows (rule_of s.params) (values_of history s.name))
    (values_of history s.name) (marked_of history s.name) 0
    (AreOf-windows (rule_of s.params) (values_of history s.name)) (values-rise history s.name whole))

pub returns-clause-sum : goal.returns-clause-sum
returns-clause-sum c history from to whole =
    All-state (λ s. let answer = interval_of_sum (is_free s.landmarks) from to s.windows (marked_values s.landmarks) in
    let truth = true_sum from to (values_of history s.name) (marked_of history s.name) in (answer.0 ≤ℤ truth) × (truth ≤ℤ answer.1)) history
    (λ s. sum-lies (is_free (landmarks_of history s.name)) from to (windows (rule_of s.params) (values_of history s.name))
    (values_of history s.name) (marked_of history s.name) 0
    (AreOf-windows (rule_of s.params) (values_of history s.name)) (values-rise history s.name whole))

pub returns-clause-least : goal.returns-clause-least
returns-clause-least c history from to whole =
    All-state (λ s. HoldsExtreme (interval_of_least (is_free s.landmarks) from to s.windows (marked_values s.landmarks))
    (true_least from to (values_of history s.name) (marked_of history s.name))) history
    (λ s. least-HoldsExtreme (is_free (landmarks_of history s.name)) from to (windows (rule_of s.params) (values_of history s.name))
    (values_of history s.name) (marked_of history s.name) 0
    (AreOf-windows (rule_of s.params) (values_of history s.name)) (values-rise history s.name whole))

pub returns-clause-greatest : goal.returns-clause-greatest
returns-clause-greatest c history from to whole =
    All-state (λ s. HoldsExtreme (interval_of_greatest (is_free s.landmarks) from to s.windows (marked_values s.landmarks))
    (true_greatest from to (values_of history s.name) (marked_of history s.name))) history
    (λ s. greatest-HoldsExtreme (is_free (landmarks_of history s.name)) from to (windows (rule_of s.params) (values_of history s.name))
    (values_of history s.name) (marked_of history s.name) 0
    (AreOf-windows (rule_of s.params) (values_of history s.name)) (values-rise history s.name whole))

pub returns-clause-mean : goal.returns-clause-mean
returns-clause-mean c history from to whole =
    All-state (λ s. HoldsMean (interval_of_mean (is_free s.landmarks) from to s.windows (marked_values s.landmarks))
    (true_values from to (values_of history s.name) (marked_of history s.name))) history
    (λ s. mean-HoldsMean (is_free (landmarks_of history s.name)) from to (windows (rule_of s.params) (values_of history s.name))
    (values_of history s.name) (marked_of history s.name) 0
    (AreOf-windows (rule_of s.params) (values_of history s.name)) (values-rise history s.name whole))

pub returns-clause-presence : goal.returns-clause-presence
returns-clause-presence c value history from to whole =
    All-state (λ s. HoldsPresence (presence_of value (is_free s.landmarks) from to s.windows (marked_values s.landmarks))
    (true_presence value from to (values_of history s.name) (marked_of history s.name))) history
    (λ s. presence-holds value (is_free (landmarks_of history s.name)) from to (windows (rule_of s.params) (values_of history s.name))
    (values_of history s.name) (marked_of history s.name) 0
    (AreExactlyOf-windows (rule_of s.params) (values_of history s.name)) (values-rise history s.name whole))
