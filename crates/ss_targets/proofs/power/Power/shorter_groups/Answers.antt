use Rattle.std.proofs.Common.{◌+◌, ◌-◌, ◌/◌, arith}
use Rattle.ss_targets.proofs.PowerLemmas.{length-monotone}
use Rattle.ss_targets.proofs.power.Power.shorter_groups.Goals as goal

pub loop-low-preserved-then-length_of_group-len : goal.loop-low-preserved-then-length_of_group-len
loop-low-preserved-then-length_of_group-len c =
    let target = c.args.self.now in
    let middle = c.loop-low.low + (c.loop-low.high - c.loop-low.low) / 2 in
    record {
      short = λ newer before.
          omega (arith, length-monotone target.widening target.scale newer middle (omega arith), c.length_of_group.ensures);
      long = c.loop-low.invariant.long;
      order = omega arith;
      capped = c.loop-low.invariant.capped;
    }
