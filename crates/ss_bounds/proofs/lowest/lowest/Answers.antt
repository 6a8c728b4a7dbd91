use Rattle.std.proofs.Common.{◌/◌, rules, FitsSigned, sym, ◌∙◌}
use Rattle.ss_bounds.specs.Fractions.{lowest}
use Rattle.std.specs.Int.{w128}
use Rattle.std.proofs.lemmas.Int.{to_z-of_z}
use Rattle.ss_bounds.proofs.LowestLemmas.{computed-lowest, held-over}
use Rattle.ss_bounds.proofs.lowest.lowest.Goals as goal

pub returns : goal.returns
returns c =
    let fits : FitsSigned w128 c.args.fraction.over = search rules in
    let whole = sym (to_z-of_z w128 c.args.fraction.over fits) in
    let sum : FitsSigned w128 c.parted-over.result.0 = search rules in
    held-over c.parted-over.result.0 (c.args.fraction.under / c.common_divisor-divisor.result) (lowest c.args.fraction) sum
    (computed-lowest c.args.fraction c.parted-rest.result.0 c.parted-over.result.0 c.parted-rest.result.1 c.parted-over.result.1
    c.common_divisor-divisor.result c.requires (whole ∙ c.parted-rest.ensures.whole) c.common_divisor-divisor.ensures.some
    c.common_divisor-divisor.ensures.times (whole ∙ c.parted-over.ensures.whole) c.parted-over.ensures.proper)
