use Rattle.std.proofs.Math.Nat.{mod-add-mod}
use Rattle.ss_generator.specs.Numbers.{number_after}
use Rattle.ss_generator.specs.declared.TheConstants.{INCREMENT, MULTIPLIER}
use Rattle.std.proofs.Common.{◌*◌, ◌^◌}
use Rattle.ss_generator.proofs.numbers.number_after.Goals as goal

pub returns : goal.returns
unfolding number_after
returns c = mod-add-mod (c.args.number * MULTIPLIER) (2 ^ 64) INCREMENT
