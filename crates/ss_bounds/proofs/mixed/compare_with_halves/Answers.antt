use Rattle.std.proofs.Common.{◌*◌, ◌-◌, arith}
use Rattle.ss_bounds.proofs.RatioLemmas.{compare-left, compare-over}
use Rattle.ss_bounds.proofs.mixed.compare_with_halves.Goals as goal

pub returns-then-all-taken : goal.returns-then-all-taken
returns-then-all-taken c =
    compare-over c.args.left.over c.args.right.over c.args.left.under c.args.right.under c.args.halves c.requires.first c.if-all-taken.true

pub returns-else-all-taken : goal.returns-else-all-taken
returns-else-all-taken c =
    compare-left c.args.left.over c.args.right.over c.args.left.under c.args.right.under c.args.halves
    (c.args.halves * c.args.right.under - 2 * c.args.right.over) c.compare.result (omega arith) c.compare.ensures
