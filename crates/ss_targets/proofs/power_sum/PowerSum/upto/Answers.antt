use Rattle.std.proofs.Common.{refl, arith}
use Rattle.ss_targets.proofs.SumLemmas.{power_sum-small}
use Rattle.ss_targets.proofs.power_sum.PowerSum.upto.Goals as goal

pub overflow_cast-result : goal.overflow_cast-result
overflow_cast-result g c =
    rw (c.closed_form.ensures, c.from.ensures) (omega (arith, power_sum-small g.row.E c.args.n c.requires.exponent c.requires.capped))

pub returns-clause-sum : goal.returns-clause-sum
returns-clause-sum g c = rw (c.closed_form.ensures, c.from.ensures) refl
