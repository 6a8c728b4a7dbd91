use Rattle.std.proofs.Common.{◌≡◌, ◌+◌, ◌-◌, inl, inr, arith}
use Rattle.std.proofs.lemmas.Bool.{cases_lt}
use Rattle.ss_targets.proofs.SumLemmas.{halves}
use Rattle.ss_targets.proofs.power_sum.last_sum_within.Goals as goal

pub loop-high-preserved-then-power_sum_upto-most : goal.loop-high-preserved-then-power_sum_upto-most
loop-high-preserved-then-power_sum_upto-most g c =
    let before = c.loop-high.invariant in
    let left = c.args.steps.now + 42 - c.loop-high.steps in
    let half = halves (c.loop-high.high - c.loop-high.low) left (omega arith) before.width in
    let next : c.args.steps.now + 42 - c.power_sum_upto.new.steps ≡ left - 1 = omega (arith, c.power_sum_upto.ensures.step) in
    record {
      within = omega (arith, c.power_sum_upto.ensures.sum);
      past = before.past;
      capped = before.capped;
      order = omega arith;
      ticks = omega (arith, half.0, c.power_sum_upto.ensures.step);
      width = rw next (omega (arith, half.2));
    }

pub loop-high-preserved : goal.loop-high-preserved
loop-high-preserved g c =
    let before = c.loop-high.invariant in
    let left = c.args.steps.now + 42 - c.loop-high.steps in
    let half = halves (c.loop-high.high - c.loop-high.low) left (omega arith) before.width in
    let next : c.args.steps.now + 42 - c.power_sum_upto.new.steps ≡ left - 1 = omega (arith, c.power_sum_upto.ensures.step) in
    record {
      within = before.within;
      past = omega (arith, c.power_sum_upto.ensures.sum);
      capped = omega arith;
      order = omega arith;
      ticks = omega (arith, half.0, c.power_sum_upto.ensures.step);
      width = rw next (omega (arith, half.1));
    }

pub returns-clause-last : goal.returns-clause-last
returns-clause-last g c =
    let before = c.loop-high.invariant in
    let next : c.loop-high.high ≡ c.loop-high.low + 1 = elim (cases_lt c.loop-high.low c.loop-high.high) [
      | inl apart ↦ omega arith
      | inr together ↦
          (let same : c.loop-high.high ≡ c.loop-high.low = omega arith in
          let past = rw same at before.past in
          absurd (omega arith))
    ] in
    rw next at before.past
