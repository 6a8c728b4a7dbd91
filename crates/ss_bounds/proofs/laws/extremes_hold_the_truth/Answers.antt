use Rattle.ss_bounds.proofs.ExtremeLemmas.{min_interval-HoldsExtreme, max_interval-HoldsExtreme}
use Rattle.ss_bounds.proofs.laws.extremes_hold_the_truth.Goals as goal

pub returns-clause-least : goal.returns-clause-least
returns-clause-least c exact ws may = min_interval-HoldsExtreme ws may exact

pub returns-clause-greatest : goal.returns-clause-greatest
returns-clause-greatest c exact ws may = max_interval-HoldsExtreme ws may exact
