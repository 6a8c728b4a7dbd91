use Rattle.std.proofs.Common.{arith}
use Rattle.ss_landmarks.proofs.OrderLemmas.{FollowFrom-open, AreLandmarks-take, AreLandmarks-close}
use Rattle.ss_landmarks.proofs.laws.landmarks_stay_in_order.Goals as goal

pub returns-clause-open : goal.returns-clause-open
returns-clause-open c ls t order can early = FollowFrom-open 0 t ls order can (omega arith) early

pub returns-clause-take : goal.returns-clause-take
returns-clause-take c = AreLandmarks-take

pub returns-clause-close : goal.returns-clause-close
returns-clause-close c = AreLandmarks-close
