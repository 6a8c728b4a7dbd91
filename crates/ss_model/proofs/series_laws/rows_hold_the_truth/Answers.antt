use Rattle.ss_model.proofs.RowLemmas.{row-answered, row-unrefused}
use Rattle.ss_model.proofs.series_laws.rows_hold_the_truth.Goals as goal

pub returns-clause-truth : goal.returns-clause-truth
returns-clause-truth c = row-answered

pub returns-clause-taken : goal.returns-clause-taken
returns-clause-taken c = row-unrefused
