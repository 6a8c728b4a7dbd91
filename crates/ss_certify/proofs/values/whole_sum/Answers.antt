use Rattle.std.proofs.Common.{arith, subst, sym, ◌<◌, ◌^◌, ℤ}
use Rattle.std.specs.Prelude.{unsigned_abs}
use Rattle.ss_query.proofs.NearSums.{held-near, sum-near}
use Rattle.ss_certify.proofs.values.whole_sum.Goals as goal

pub returns-in-Some-clause-near : goal.returns-in-Some-clause-near
returns-in-Some-clause-near c =
    let near = sum-near _ c.summary.invariant in
    let same = held-near c.summary.inside.sum (omega (arith, near)) in
    subst (λ (z : ℤ). unsigned_abs z < 2 ^ 104) (sym same) near
