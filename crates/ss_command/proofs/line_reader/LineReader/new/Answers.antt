use Rattle.std.proofs.Common.{Some, ap}
use Rattle.ss_command.specs.Lines.{unended}
use Rattle.ss_command.proofs.line_reader.LineReader.new.Goals as goal

pub returns-clause-taken : goal.returns-clause-taken
unfolding unended
returns-clause-taken c = ap Some c.new.ensures
