use Rattle.ss_command.proofs.LineLaws.{ended_lines-written}
use Rattle.ss_command.proofs.laws.lines_give_the_input_back.Goals as goal

pub returns : goal.returns
returns c = ended_lines-written
