use Rattle.std.proofs.Common.{subst}
use Rattle.ss_bounds.specs.Split.{IsSplit}
use Rattle.ss_bounds.proofs.corners.corners_of.Goals as goal

pub returns-clause-split : goal.returns-clause-split
returns-clause-split c = subst IsSplit c.split.view_is c.split.invariant

pub returns-clause-small : goal.returns-clause-small
returns-clause-small c = record {
  fewest = c.taken.ensures.small;
  some = c.taken-2.ensures.small;
  before = c.taken-3.ensures.small;
  after = c.taken-4.ensures.small;
  most = c.taken-5.ensures.small;
}
