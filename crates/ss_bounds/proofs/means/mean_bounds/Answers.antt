use Rattle.std.proofs.Common.{refl, ◌∙◌}
use Rattle.ss_bounds.proofs.CornerLemmas.{found-interval}
use Rattle.ss_bounds.proofs.means.mean_bounds.Goals as goal

pub returns : goal.returns
returns c =
    c.mean_from.ensures
    ∙ found-interval c.args.known c.args.left c.args.right c.sides_of-left.result c.sides_of-right.result c.mean_end-least.result c.mean_end-greatest.result _
    c.sides_of-left.ensures.least c.sides_of-right.ensures.least c.sides_of-left.ensures.greatest c.sides_of-right.ensures.greatest
    c.sides_of-left.ensures.fewest c.sides_of-right.ensures.fewest c.mean_end-least.ensures c.mean_end-greatest.ensures refl
