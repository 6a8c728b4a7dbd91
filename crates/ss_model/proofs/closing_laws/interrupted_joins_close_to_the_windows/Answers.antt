use Rattle.ss_model.proofs.JoinLemmas.{closed-interrupted}
use Rattle.ss_model.proofs.closing_laws.interrupted_joins_close_to_the_windows.Goals as goal

pub returns : goal.returns
returns c = closed-interrupted
