use Rattle.ss_bounds.proofs.RangeLemmas.{times_inside-times, times_inside-times_outside}
use Rattle.ss_bounds.proofs.laws.free_times_are_parted.Goals as goal

pub returns-clause-inside : goal.returns-clause-inside
returns-clause-inside c = times_inside-times

pub returns-clause-all : goal.returns-clause-all
returns-clause-all c = times_inside-times_outside
