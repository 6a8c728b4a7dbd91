use Rattle.std.proofs.Common.{arith, refl}
use Rattle.std.specs.Int.{w64}
use Rattle.std.proofs.lemmas.Int.{ints, to_z-of_z}
use Rattle.ss_query.proofs.NearSums.{held-near, sum-near}
use Rattle.ss_query.proofs.SplitLemmas.{IsSplit-figures, inside-most, split_figures-is}
use Rattle.ss_query.proofs.asking.split_of.Goals as goal

pub overflow_sub-result : goal.overflow_sub-result
overflow_sub-result g c =
    inside-most c.args.landmarks.now.landmarks c.args.query.now.from c.args.query.now.to c.args.window.now _ _ _ _ c.ends_in.result c.times_inside-inside.result
    c.free-between.result c.summary.view_is refl refl refl c.ends_in.ensures c.times_inside-inside.ensures.times c.free-between.ensures.free

pub invariant_of-result : goal.invariant_of-result
invariant_of-result g c =
    IsSplit-figures c.args.landmarks.now.landmarks c.args.query.now.from c.args.query.now.to c.args.window.now _ _ _ _ c.ends_in.result
    c.times_inside-inside.result
    c.free-between.result c.summary.view_is (held-near c.summary.inside.sum (let near = sum-near _ c.summary.invariant in omega (arith, ints, near)))
    (to_z-of_z w64 c.summary.inside.min c.summary.invariant.min_fits) (to_z-of_z w64 c.summary.inside.max c.summary.invariant.max_fits)
    c.ends_in.ensures c.times_inside-inside.ensures.times c.free-between.ensures.free c.requires.split c.requires.free c.summary.invariant

pub returns-clause-figures : goal.returns-clause-figures
returns-clause-figures g c =
    split_figures-is c.args.landmarks.now.landmarks c.args.query.now.from c.args.query.now.to c.args.window.now _ _ _ _ c.ends_in.result
    c.times_inside-inside.result
    c.free-between.result c.summary.view_is (held-near c.summary.inside.sum (let near = sum-near _ c.summary.invariant in omega (arith, ints, near)))
    (to_z-of_z w64 c.summary.inside.min c.summary.invariant.min_fits) (to_z-of_z w64 c.summary.inside.max c.summary.invariant.max_fits)
    c.ends_in.ensures c.times_inside-inside.ensures.times c.free-between.ensures.free
