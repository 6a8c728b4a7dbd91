use Rattle.ss_laws.proofs.StreamParts.{exact-count_rows, exact-sum_rows}
use Rattle.ss_laws.proofs.part_laws.exact_rows_add_up.Goals as goal

pub returns-clause-counts : goal.returns-clause-counts
returns-clause-counts c history series whole some order = exact-count_rows history whole series some order

pub returns-clause-sums : goal.returns-clause-sums
returns-clause-sums c history series whole some order = exact-sum_rows history whole series some order
