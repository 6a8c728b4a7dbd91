use Rattle.ss_command.proofs.GrammarLemmas.{meaning-long}
use Rattle.ss_command.proofs.laws.long_lines_are_refused.Goals as goal

pub returns : goal.returns
returns c = meaning-long
