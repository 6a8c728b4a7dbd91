use Rattle.ss_landmarks.proofs.TimeLemmas.{free-add, free-le}
use Rattle.ss_landmarks.proofs.laws.free_times_add_up.Goals as goal

pub returns-clause-both : goal.returns-clause-both
returns-clause-both c = free-add

pub returns-clause-most : goal.returns-clause-most
returns-clause-most c = free-le
