use Rattle.ss_program.proofs.Common.{◌∷◌}
use Rattle.ss_promises.proofs.ConversationLemmas.{asked-brings}
use Rattle.ss_program.proofs.ReportLemmas.{text_of-append}
use Rattle.ss_promises.proofs.session_laws.sessions_say_what_commands_bring.Goals as goal

pub returns-clause-brings : goal.returns-clause-brings
returns-clause-brings c = asked-brings

pub returns-clause-among : goal.returns-clause-among
returns-clause-among c talk before after line = text_of-append talk before (line ∷ after)
