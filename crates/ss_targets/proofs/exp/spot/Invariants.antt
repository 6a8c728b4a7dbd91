use Rattle.std.proofs.Common.{◌-◌}
use Rattle.ss_targets.proofs.ExpLemmas.{InGroup}
use Rattle.ss_targets.proofs.exp.spot.Given as goal

abbrev pub invariant-loop-len : goal.invariant-loop-len
invariant-loop-len l = InGroup l.base l.repeat l.scale l.group l.start l.len l.age

abbrev pub decreases-loop-len : goal.decreases-loop-len
decreases-loop-len l = l.age - l.start
