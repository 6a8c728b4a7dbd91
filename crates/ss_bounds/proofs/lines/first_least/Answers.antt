use Rattle.std.proofs.Common.{arith}
use Rattle.ss_bounds.specs.Split.{low_sum}
use Rattle.ss_bounds.proofs.StraightLemmas.{IsFirstLeast-lower, IsFirstLeast-straight, lower-within}
use Rattle.ss_bounds.proofs.lines.first_least.Goals as goal

pub lower-requires-clause-first : goal.lower-requires-clause-first
lower-requires-clause-first c = rw c.lower-early.ensures (lower-within (low_sum c.args.split) _ _ _ (omega arith) (omega arith))

pub lower-requires-clause-second : goal.lower-requires-clause-second
lower-requires-clause-second c = rw c.lower-late.ensures (lower-within (low_sum c.args.split) _ _ _ (omega arith) (omega arith))

pub returns : goal.returns
returns c =
    let turns = c.turns-before.ensures in
    let f = low_sum c.args.split in
    let early = rw (← c.lower-early.ensures) at (IsFirstLeast-straight f _ _ _ turns.first turns.from) in
    let late = rw (← c.lower-late.ensures) at (IsFirstLeast-straight f _ _ _ turns.second turns.to) in
    rw c.lower.ensures (IsFirstLeast-lower f _ _ _ _ _ _ (omega arith) (omega arith) turns.beside early late)
