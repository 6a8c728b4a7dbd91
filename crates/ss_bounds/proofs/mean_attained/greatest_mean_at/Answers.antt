use Rattle.std.proofs.Common.{◌∙◌}
use Rattle.ss_bounds.proofs.MeanAttainedLemmas.{computed-greatest}
use Rattle.ss_bounds.proofs.mean_attained.greatest_mean_at.Goals as goal

pub returns : goal.returns
returns c =
    c.first_corner.ensures
    ∙ computed-greatest c.args.known c.args.window c.args.other c.corners_of-window.result c.sides_of-other.result.greatest
    (c.corners_of-window.ensures.split, c.corners_of-window.ensures.corners) c.sides_of-other.ensures.greatest
