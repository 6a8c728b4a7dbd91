use Rattle.ss_landmarks.proofs.TimeLemmas.{AllEndBy-open, AllEndBy-take, AllEndBy-close}
use Rattle.ss_landmarks.proofs.laws.last_times_rise.Goals as goal

pub returns-clause-open : goal.returns-clause-open
returns-clause-open c = AllEndBy-open

pub returns-clause-take : goal.returns-clause-take
returns-clause-take c = AllEndBy-take

pub returns-clause-close : goal.returns-clause-close
returns-clause-close c = AllEndBy-close
