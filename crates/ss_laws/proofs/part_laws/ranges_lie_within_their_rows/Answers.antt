use Rattle.std.proofs.Common.{get_or}
use Rattle.ss_model.specs.State.{state}
use Rattle.ss_model.proofs.HistoryLemmas.{IsState-state}
use Rattle.ss_laws.proofs.StreamParts.{counts-rows, greatest-rows, least-rows, sums-rows}
use Rattle.ss_laws.proofs.part_laws.ranges_lie_within_their_rows.Goals as goal

pub returns-clause-counts : goal.returns-clause-counts
returns-clause-counts c history series whole some order = λ k d inside.
    counts-rows (get_or (state history) k d) ((IsState-state history whole).each k d inside) series some order

pub returns-clause-sums : goal.returns-clause-sums
returns-clause-sums c history series whole some order = λ k d inside.
    sums-rows (get_or (state history) k d) ((IsState-state history whole).each k d inside) series some order

pub returns-clause-least : goal.returns-clause-least
returns-clause-least c history series whole some order = λ k d inside.
    least-rows (get_or (state history) k d) ((IsState-state history whole).each k d inside) series some order

pub returns-clause-greatest : goal.returns-clause-greatest
returns-clause-greatest c history series whole some order = λ k d inside.
    greatest-rows (get_or (state history) k d) ((IsState-state history whole).each k d inside) series some order
