use Rattle.ss_promises.proofs.ConversationLemmas.{talk-leaves}
use Rattle.ss_promises.proofs.session_laws.conversations_leave_a_history.Goals as goal

pub returns : goal.returns
returns c = talk-leaves
