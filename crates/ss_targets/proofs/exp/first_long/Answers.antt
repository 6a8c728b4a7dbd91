use Rattle.std.proofs.Common.{arith}
use Rattle.ss_targets.proofs.ExpLemmas.{group-positive, group_le_age, InGroup-next, short-next, NoneOfLength-next, FindsOfLength-group}
use Rattle.ss_targets.proofs.exp.first_long.Goals as goal

pub returns-then-start-span-clause-none : goal.returns-then-start-span-clause-none
returns-then-start-span-clause-none c =
    NoneOfLength-next c.requires c.loop-length.invariant.group c.loop-length.invariant.short c.loop-length-test.true (omega arith) c.if-start-span.true

pub overflow_add-group : goal.overflow_add-group
overflow_add-group c = omega (arith, group_le_age c.requires c.loop-length.invariant.group)

pub loop-length-smaller : goal.loop-length-smaller
loop-length-smaller c = omega (arith, group-positive c.requires c.loop-length.invariant.group)

pub loop-length-preserved : goal.loop-length-preserved
loop-length-preserved c = record {
  group = InGroup-next c.requires c.loop-length.invariant.group (omega arith) c.if-start-span.false;
  short = short-next c.requires c.loop-length.invariant.group c.loop-length.invariant.short c.loop-length-test.true;
}

pub overflow_mul-result : goal.overflow_mul-result
overflow_mul-result c = omega (arith, group_le_age c.requires c.loop-length.invariant.group)

pub returns-clause-some : goal.returns-clause-some
returns-clause-some c =
    FindsOfLength-group c.requires c.loop-length.invariant.group c.loop-length.invariant.short c.loop-length-test.false (omega arith)
