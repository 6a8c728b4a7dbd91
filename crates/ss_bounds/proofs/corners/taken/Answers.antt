use Rattle.std.proofs.Common.{subst}
use Rattle.ss_bounds.specs.Split.{IsSplit}
use Rattle.ss_bounds.proofs.BendLemmas.{IsSmall-held}
use Rattle.ss_bounds.proofs.corners.taken.Goals as goal

pub returns-clause-small : goal.returns-clause-small
returns-clause-small c =
    let split = subst IsSplit c.split.view_is c.split.invariant in
    IsSmall-held c.args.side c.args.split split c.args.x c.requires c.sum_at.result c.sum_at.ensures
