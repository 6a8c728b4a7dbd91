use Rattle.std.proofs.Common.{arith}
use Rattle.ss_generator.proofs.LeftLemmas.{commands-left, length-after}
use Rattle.ss_generator.proofs.generator.Generator.new.Goals as goal

pub returns-clause-commands : goal.returns-clause-commands
returns-clause-commands c = commands-left c.args.start c.args.count

pub returns-clause-bound : goal.returns-clause-bound
returns-clause-bound c = omega (arith, length-after 0 c.args.start 0 c.args.count)
