use Rattle.std.proofs.Common.{◌≡◌, ◌*◌, ap, arith}
use Rattle.std.proofs.lemmas.Nat.Gcd.{IsGcd-from_zero}
use Rattle.ss_bounds.proofs.LowestLemmas.{IsGcd-scaled}
use Rattle.ss_bounds.proofs.lowest.common_divisor.Goals as goal

pub loop-rest-init : goal.loop-rest-init
loop-rest-init c = (c.requires, λ n g more is. is)

pub loop-rest-preserved : goal.loop-rest-preserved
loop-rest-preserved c = (
  omega arith,
  λ n g more is. c.loop-rest.invariant.1 n g more (IsGcd-scaled c.loop-rest.divisor c.loop-rest.rest n g (omega arith) more is),
)

pub returns-clause-some : goal.returns-clause-some
returns-clause-some c = c.loop-rest.invariant.0

pub returns-clause-times : goal.returns-clause-times
returns-clause-times c = λ n more.
    let none : c.loop-rest.rest ≡ 0 = omega arith in
    let product = ap (λ k. k * n) none in
    c.loop-rest.invariant.1 n (c.loop-rest.divisor * n) more (IsGcd-from_zero (c.loop-rest.divisor * n) (c.loop-rest.rest * n) (omega arith))
