use Rattle.ss_command.proofs.PrintLemmas.{meaning-printed}
use Rattle.ss_command.proofs.laws.printed_commands_read_back.Goals as goal

pub returns : goal.returns
returns c = meaning-printed
