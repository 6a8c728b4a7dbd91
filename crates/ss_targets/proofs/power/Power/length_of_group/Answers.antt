use Rattle.std.proofs.Common.{arith}
use Rattle.ss_targets.proofs.PowerLemmas.{length-power, length-small}
use Rattle.ss_targets.proofs.power.Power.length_of_group.Goals as goal

pub pow-requires : goal.pow-requires
pow-requires c = omega (arith, length-power c.args.self.now.in_range c.requires)

pub overflow_mul-result : goal.overflow_mul-result
overflow_mul-result c = rw (c.from.ensures, c.pow.ensures) (omega (arith, length-small c.args.self.now.in_range c.requires))
