use Rattle.std.proofs.Common.{◌∙◌}
use Rattle.std.proofs.lemmas.Int.{to_z-of_z}
use Rattle.std.specs.Int.{w128}
use Rattle.ss_bounds.specs.Split.{low_sum}
use Rattle.ss_bounds.proofs.AttainedLemmas.{IsLeast-IsFirstLeast}
use Rattle.ss_bounds.proofs.lines.least_low_sum.Goals as goal

pub returns : goal.returns
returns c =
    let is = to_z-of_z w128 c.low_sum.result (record { sfits = c.low_sum.type_inv }) ∙ c.low_sum.ensures in
    rw is (IsLeast-IsFirstLeast (low_sum c.args.split) _ _ _ c.first_least.ensures)
