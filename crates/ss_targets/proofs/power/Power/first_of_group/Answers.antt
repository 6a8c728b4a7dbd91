use Rattle.std.proofs.Common.{sym, arith}
use Rattle.ss_targets.proofs.PowerLemmas.{cut-sizes, index-small}
use Rattle.ss_targets.proofs.power.Power.first_of_group.Goals as goal

pub overflow_mul-result : goal.overflow_mul-result
overflow_mul-result g c =
    rw (c.from.ensures, c.power_sum_upto.ensures.sum) (omega (arith, index-small c.args.self.now.in_range c.args.newer, c.requires.early))

pub returns-clause-index : goal.returns-clause-index
returns-clause-index g c =
    rw (c.from.ensures, c.power_sum_upto.ensures.sum) (sym (cut-sizes c.args.self.now.power c.args.self.now.repeat c.args.newer))
