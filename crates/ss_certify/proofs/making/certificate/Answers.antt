use Rattle.std.proofs.Common.{arith, sym, subst, ◌∙◌, None}
use Rattle.std.proofs.lemmas.Int.{to_z-of_z}
use Rattle.std.specs.Int.{w128}
use Rattle.ss_bounds.specs.Extremes.{listed}
use Rattle.ss_bounds.specs.Split.{IsSplit}
use Rattle.ss_bounds.specs.Parted.{CanBeParted}
use Rattle.ss_certify.proofs.MadeLemmas.{AreAllSplit-other, CanBeParted-inside_sum, attaining-few}
use Rattle.ss_certify.proofs.making.certificate.Goals as goal

pub sum_inside-sum-requires : goal.sum_inside-sum-requires
sum_inside-sum-requires c =
    let split = subst IsSplit c.split.view_is c.split.invariant in
    let few = attaining-few c.args.kind c.args.end c.args.known c.args.cut.split (listed None c.args.other) split
    (AreAllSplit-other c.args.other c.look.ensures) in
    omega (arith, c.attaining-x.ensures)

pub certificate_with-requires : goal.certificate_with-requires
certificate_with-requires c =
    let split = subst IsSplit c.split.view_is c.split.invariant in
    let few = attaining-few c.args.kind c.args.end c.args.known c.args.cut.split (listed None c.args.other) split
    (AreAllSplit-other c.args.other c.look.ensures) in
    let x = c.attaining-x.ensures in
    let sum = to_z-of_z w128 c.sum_inside-sum.result (record { sfits = c.sum_inside-sum.type_inv }) ∙ c.sum_inside-sum.ensures in
    let can = CanBeParted-inside_sum c.args.kind c.args.end c.args.cut.split c.attaining-x.result split (omega (arith, x)) in
    subst (CanBeParted c.args.cut.split c.attaining-x.result) (sym sum) can
