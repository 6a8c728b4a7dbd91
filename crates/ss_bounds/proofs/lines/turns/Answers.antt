use Rattle.std.proofs.Common.{arith}
use Rattle.ss_bounds.proofs.LineLemmas.{AreTurns-crossing}
use Rattle.ss_bounds.proofs.lines.turns.Goals as goal

pub returns : goal.returns
returns c =
    AreTurns-crossing c.args.split c.crossing-crossing.result c.crossing-crossing.ensures c.args.fewest c.args.most _ _
    c.requires.order c.requires.all (omega arith) (omega arith)
