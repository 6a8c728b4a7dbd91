use Rattle.ss_landmarks.proofs.OpenLemmas.{open_landmark-open, open_landmark-take, open_landmark-close}
use Rattle.ss_landmarks.proofs.laws.the_last_is_open.Goals as goal

pub returns-clause-open : goal.returns-clause-open
returns-clause-open c = open_landmark-open

pub returns-clause-take : goal.returns-clause-take
returns-clause-take c = open_landmark-take 0

pub returns-clause-close : goal.returns-clause-close
returns-clause-close c = open_landmark-close 0
