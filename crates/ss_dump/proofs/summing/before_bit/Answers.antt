use Rattle.std.proofs.Common.{arith, ◌<◌, ◌^◌}
use Rattle.std.specs.Prelude.{bit_xor}
use Rattle.ss_dump.proofs.SumLemmas.{from-high, high-falls}
use Rattle.ss_dump.proofs.summing.before_bit.Goals as goal

pub overflow_mul-result : goal.overflow_mul-result
overflow_mul-result c =
    let falls : bit_xor c.args.state 2197175160 < 2 ^ 31 = high-falls c.args.state (omega (arith, c.if-state.true)) (omega (arith, c.ranges.state.fits)) in
    omega (arith, falls)

pub overflow_add-result : goal.overflow_add-result
overflow_add-result c =
    let falls : bit_xor c.args.state 2197175160 < 2 ^ 31 = high-falls c.args.state (omega (arith, c.if-state.true)) (omega (arith, c.ranges.state.fits)) in
    omega (arith, falls)

pub returns-then-state : goal.returns-then-state
returns-then-state c = from-high c.args.state
