use Rattle.std.proofs.Common.{arith}
use Rattle.std.proofs.lemmas.Grind.{common_steps}
use Rattle.ss_command.specs.Grammar.{meaning}
use Rattle.ss_connection.proofs.connection.lines.meaning_of.Goals as goal

pub returns-then-line-gt-LONGEST_LINE-clause-meaning : goal.returns-then-line-gt-LONGEST_LINE-clause-meaning
unfolding meaning
returns-then-line-gt-LONGEST_LINE-clause-meaning c = grind (arith, common_steps)
