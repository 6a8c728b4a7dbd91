use Rattle.ss_model.proofs.JoinLemmas.{JoinsDue-closed, closed-only_end}
use Rattle.ss_model.proofs.closing_laws.closing_is_joining_what_is_due.Goals as goal

pub returns-clause-joins : goal.returns-clause-joins
returns-clause-joins c = JoinsDue-closed

pub returns-clause-only_end : goal.returns-clause-only_end
returns-clause-only_end c = closed-only_end
