use Rattle.ss_model.proofs.JoinLemmas.{JoinsDue-one, JoinsDue-append}
use Rattle.ss_model.proofs.closing_laws.joins_add_up.Goals as goal

pub returns-clause-one : goal.returns-clause-one
returns-clause-one c = JoinsDue-one

pub returns-clause-in_a_row : goal.returns-clause-in_a_row
returns-clause-in_a_row c = JoinsDue-append
