use Rattle.ss_promises.proofs.LawLemmas.{lines-leave}
use Rattle.ss_promises.proofs.laws.sessions_leave_a_history.Goals as goal

pub returns : goal.returns
returns c = lines-leave
