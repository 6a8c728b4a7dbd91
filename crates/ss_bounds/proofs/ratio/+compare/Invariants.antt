use Rattle.std.proofs.Common.{◌+◌}
use Rattle.ss_bounds.proofs.ratio.+compare.Given as goal

abbrev pub decreases-compare : goal.decreases-compare
decreases-compare l = l.b + l.d
