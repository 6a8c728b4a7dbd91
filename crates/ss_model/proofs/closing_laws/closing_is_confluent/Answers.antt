use Rattle.ss_model.proofs.JoinLemmas.{closed-JoinsDue}
use Rattle.ss_model.proofs.closing_laws.closing_is_confluent.Goals as goal

pub returns : goal.returns
returns c = closed-JoinsDue
