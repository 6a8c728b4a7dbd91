use Rattle.std.proofs.Common.{◌∙◌}
use Rattle.ss_query.proofs.SplitLemmas.{times_inside-free}
use Rattle.ss_query.proofs.asking.times_inside.Goals as goal

pub returns-clause-times : goal.returns-clause-times
returns-clause-times g c =
    c.free.ensures.free
    ∙ times_inside-free c.args.landmarks.now.landmarks c.args.query.now.from c.args.query.now.to c.args.first c.args.last c.max-begin.result c.min-end.result
    c.max-begin.ensures c.min-end.ensures
