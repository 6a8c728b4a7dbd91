use Rattle.ss_command.proofs.LineLaws.{lines-no_end}
use Rattle.ss_command.proofs.laws.lines_have_no_line_end.Goals as goal

pub returns : goal.returns
returns c = lines-no_end
