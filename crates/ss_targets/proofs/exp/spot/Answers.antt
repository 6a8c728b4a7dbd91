use Rattle.std.proofs.Common.{arith}
use Rattle.ss_targets.proofs.ExpLemmas.{group-positive, group_le_age, InGroup-next, exp_length-place, cut-place, holds-place, place_le_age}
use Rattle.ss_targets.proofs.exp.spot.Goals as goal

pub overflow_add-group : goal.overflow_add-group
overflow_add-group c = omega (arith, group_le_age c.requires.in_range c.loop-len.invariant)

pub loop-len-smaller : goal.loop-len-smaller
loop-len-smaller c = omega (arith, group-positive c.requires.in_range c.loop-len.invariant)

pub loop-len-preserved : goal.loop-len-preserved
loop-len-preserved c = InGroup-next c.requires.in_range c.loop-len.invariant c.requires.recent c.loop-len-test.true

pub overflow_mul-result : goal.overflow_mul-result
overflow_mul-result c = omega (arith, group_le_age c.requires.in_range c.loop-len.invariant)

pub overflow_add-result : goal.overflow_add-result
overflow_add-result c = omega (arith, place_le_age c.requires.in_range c.loop-len.invariant c.loop-len-test.false)

pub returns-clause-holds : goal.returns-clause-holds
returns-clause-holds c = holds-place c.requires.in_range c.loop-len.invariant c.loop-len-test.false

pub returns-clause-start : goal.returns-clause-start
returns-clause-start c = cut-place c.requires.in_range c.loop-len.invariant c.loop-len-test.false

pub returns-clause-len : goal.returns-clause-len
returns-clause-len c = exp_length-place c.requires.in_range c.loop-len.invariant c.loop-len-test.false
