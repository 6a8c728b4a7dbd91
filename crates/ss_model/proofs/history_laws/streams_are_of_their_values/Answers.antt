use Rattle.ss_model.proofs.Common.{◌≡◌, ap, length, refl, rule_of, landmarks_of, values_of, later, latest_of, values_in, last_time, windows, time_of_last}
use Rattle.ss_model.proofs.ReadLemmas.{All-state}
use Rattle.ss_model.proofs.Stretches.{taken-windows, newest_time-windows}
use Rattle.ss_model.proofs.history_laws.streams_are_of_their_values.Goals as goal

pub returns-clause-windows : goal.returns-clause-windows
returns-clause-windows c history = All-state (λ s. s.windows ≡ windows (rule_of s.params) (values_of history s.name)) history (λ s. refl)

pub returns-clause-count : goal.returns-clause-count
returns-clause-count c history =
    All-state (λ s. values_in s ≡ length (values_of history s.name)) history (λ s. taken-windows (rule_of s.params) (values_of history s.name))

pub returns-clause-landmarks : goal.returns-clause-landmarks
returns-clause-landmarks c history = All-state (λ s. s.landmarks ≡ landmarks_of history s.name) history (λ s. refl)

pub returns-clause-time : goal.returns-clause-time
returns-clause-time c history =
    All-state (λ s. last_time s ≡ later (time_of_last (values_of history s.name)) (latest_of (landmarks_of history s.name))) history
    (λ s. ap (λ o. later o (latest_of (landmarks_of history s.name))) (newest_time-windows (rule_of s.params) (values_of history s.name)))
