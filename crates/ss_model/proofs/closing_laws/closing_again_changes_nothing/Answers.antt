use Rattle.ss_model.proofs.JoinLemmas.{closed-closed, closed-windows}
use Rattle.ss_model.proofs.closing_laws.closing_again_changes_nothing.Goals as goal

pub returns-clause-of_closed : goal.returns-clause-of_closed
returns-clause-of_closed c = closed-closed

pub returns-clause-of_values : goal.returns-clause-of_values
returns-clause-of_values c = closed-windows
