use Rattle.ss_command.proofs.SayLemmas.{meant-sayable}
use Rattle.ss_command.proofs.laws.meant_commands_can_be_said.Goals as goal

pub returns : goal.returns
returns c = meant-sayable
