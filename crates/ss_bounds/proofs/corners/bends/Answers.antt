use Rattle.std.proofs.Common.{◌-◌, ap, arith, subst}
use Rattle.ss_bounds.specs.Corners.{AreBends}
use Rattle.ss_bounds.specs.Split.{SplitFigures, high_sum}
use Rattle.ss_bounds.proofs.BendLemmas.{AreBends-turned, AreBends-turns}
use Rattle.ss_bounds.proofs.corners.bends.Goals as goal

pub returns-in-Least : goal.returns-in-Least
returns-in-Least c =
    rw c.in-Least.is (AreBends-turns c.args.split c.args.fewest c.args.most c.turns.result.0 c.turns.result.1 c.turns.ensures)

pub returns-in-Greatest : goal.returns-in-Greatest
returns-in-Greatest c =
    let same = ap (λ (s : SplitFigures). s.count) c.split.view_is in
    let turns = rw (← c.split.view_is) at c.turns-before.ensures in
    let bends = AreBends-turned _ c.args.fewest c.args.most c.turns-before.result.0 c.turns-before.result.1 c.requires.order (omega arith) turns in
    rw c.in-Greatest.is (subst (λ s. AreBends (high_sum s) c.args.fewest c.args.most (c.split.inside.count - c.turns-before.result.1)
    (c.split.inside.count - c.turns-before.result.0)) c.split.view_is bends)
