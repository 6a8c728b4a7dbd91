use Rattle.ss_bounds.proofs.MixedLemmas.{mixed-count}
use Rattle.ss_bounds.proofs.guess.mixed_count.Goals as goal

pub returns : goal.returns
returns c =
    mixed-count c.args.split c.spread_of-guess.result c.spread_of-guess.ensures c.from.result c.from-2.result c.from-3.result
    c.from.ensures c.from-2.ensures c.from-3.ensures
