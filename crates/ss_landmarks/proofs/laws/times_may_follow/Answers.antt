use Rattle.ss_landmarks.specs.Landmark.{open_landmark}
use Rattle.ss_landmarks.proofs.TimeLemmas.{CanOpen-after, CanTake-after, CanTake-first, CanClose-after}
use Rattle.ss_landmarks.proofs.laws.times_may_follow.Goals as goal

pub returns-clause-open : goal.returns-clause-open
returns-clause-open c = CanOpen-after

pub returns-clause-take : goal.returns-clause-take
returns-clause-take c = CanTake-after

pub returns-clause-first : goal.returns-clause-first
returns-clause-first c ls t is = CanTake-first t (open_landmark ls) is

pub returns-clause-close : goal.returns-clause-close
returns-clause-close c = CanClose-after
