use Rattle.std.proofs.Common.{get_or}
use Rattle.ss_model.specs.State.{state}
use Rattle.ss_model.proofs.HistoryLemmas.{IsState-state}
use Rattle.ss_laws.proofs.StreamParts.{counts-parts, greatest-parts, least-parts, sums-parts}
use Rattle.ss_laws.proofs.part_laws.ranges_lie_within_their_parts.Goals as goal

pub returns-clause-counts : goal.returns-clause-counts
returns-clause-counts c history from mid to whole before after = λ k d inside.
    counts-parts (get_or (state history) k d) ((IsState-state history whole).each k d inside) from mid to before after

pub returns-clause-sums : goal.returns-clause-sums
returns-clause-sums c history from mid to whole before after = λ k d inside.
    sums-parts (get_or (state history) k d) ((IsState-state history whole).each k d inside) from mid to before after

pub returns-clause-least : goal.returns-clause-least
returns-clause-least c history from mid to whole before after = λ k d inside.
    least-parts (get_or (state history) k d) ((IsState-state history whole).each k d inside) from mid to before after

pub returns-clause-greatest : goal.returns-clause-greatest
returns-clause-greatest c history from mid to whole before after = λ k d inside.
    greatest-parts (get_or (state history) k d) ((IsState-state history whole).each k d inside) from mid to before after
