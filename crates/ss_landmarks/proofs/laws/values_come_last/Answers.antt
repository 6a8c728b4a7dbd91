use Rattle.ss_landmarks.proofs.TimeLemmas.{all_values-open, all_values-take, all_values-close}
use Rattle.ss_landmarks.proofs.laws.values_come_last.Goals as goal

pub returns-clause-open : goal.returns-clause-open
returns-clause-open c = all_values-open

pub returns-clause-take : goal.returns-clause-take
returns-clause-take c = all_values-take

pub returns-clause-close : goal.returns-clause-close
returns-clause-close c = all_values-close
