use Rattle.std.proofs.Common.{◌≡◌, ◌^◌, ◌≤◌, arith}
use Rattle.ss_targets.proofs.ClosedFormLemmas.{products-small, closed-zero, closed-one, closed-two, closed-three, closed-four, closed-five, closed-six}
use Rattle.ss_targets.proofs.ClosedFormLemmas.{products-four, products-six}
use Rattle.ss_targets.proofs.power_sum.PowerSum.closed_form.Goals as goal

pub overflow_mul-result-in-4-3 : goal.overflow_mul-result-in-4-3
overflow_mul-result-in-4-3 g c =
    let small : c.args.n ≤ 2 ^ 10 = rw c.in-4.is at c.requires.capped in
    omega (arith, products-four c.args.n (omega arith))

pub overflow_mul-result-in_default-2 : goal.overflow_mul-result-in_default-2
overflow_mul-result-in_default-2 g c =
    let last : g.row.E ≡ 6 = omega arith in
    let small : c.args.n ≤ 2 ^ 7 = rw last at c.requires.capped in
    omega (arith, products-small c.args.n (omega arith))

pub overflow_mul-result-in_default-3 : goal.overflow_mul-result-in_default-3
overflow_mul-result-in_default-3 g c =
    let last : g.row.E ≡ 6 = omega arith in
    let small : c.args.n ≤ 2 ^ 7 = rw last at c.requires.capped in
    omega (arith, products-small c.args.n (omega arith))

pub overflow_mul-result-in_default-5 : goal.overflow_mul-result-in_default-5
overflow_mul-result-in_default-5 g c =
    let last : g.row.E ≡ 6 = omega arith in
    let small : c.args.n ≤ 2 ^ 7 = rw last at c.requires.capped in
    omega (arith, products-small c.args.n (omega arith))

pub overflow_add-result : goal.overflow_add-result
overflow_add-result g c =
    let last : g.row.E ≡ 6 = omega arith in
    let small : c.args.n ≤ 2 ^ 7 = rw last at c.requires.capped in
    omega (arith, products-small c.args.n (omega arith))

pub overflow_mul-result-in_default-6 : goal.overflow_mul-result-in_default-6
overflow_mul-result-in_default-6 g c =
    let last : g.row.E ≡ 6 = omega arith in
    let small : c.args.n ≤ 2 ^ 7 = rw last at c.requires.capped in
    omega (arith, products-six c.args.n (omega arith))

pub returns-in-0 : goal.returns-in-0
returns-in-0 g c = rw c.in-0.is (closed-zero c.args.n)

pub returns-in-1 : goal.returns-in-1
returns-in-1 g c = rw c.in-1.is (closed-one c.args.n)

pub returns-in-2 : goal.returns-in-2
returns-in-2 g c = rw c.in-2.is (closed-two c.args.n)

pub returns-in-3 : goal.returns-in-3
returns-in-3 g c = rw c.in-3.is (closed-three c.args.n)

pub returns-in-4 : goal.returns-in-4
returns-in-4 g c = rw c.in-4.is (closed-four c.args.n)

pub returns-in-5 : goal.returns-in-5
returns-in-5 g c = rw c.in-5.is (closed-five c.args.n)

pub returns-in_default : goal.returns-in_default
returns-in_default g c = let last : g.row.E ≡ 6 = omega arith in rw last (closed-six c.args.n)
