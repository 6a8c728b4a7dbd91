use Rattle.std.specs.Prelude.{◌≡◌, pos, ◌+ℤ◌}
use Rattle.std.specs.Int.{w64, w128}
use Rattle.std.proofs.Common.{ap, arith, subst, sym, ◌∙◌}
use Rattle.std.proofs.lemmas.Int.{ints, to_z-of_z}
use mir.Val.{to_z, of_z}
use Rattle.ss_summary.specs.Figures.{IsPossible}
use Rattle.ss_summary.specs.Filters.{filter_of}
use Rattle.ss_summary.specs.Points.{New}
use Rattle.ss_summary.proofs.Values.{IsPossible-one}
use Rattle.ss_summary.proofs.summary.Summary.one.Goals as goal

pub returns : goal.returns
returns c =
    let value = to_z-of_z w64 c.args.v c.ranges.v in
    let from = c.from.ensures ∙ value in
    let sum = ap (λ z. to_z w128 (of_z w128 z)) from ∙ to_z-of_z w128 c.args.v (let fits = c.ranges.v in omega (arith, ints)) in
    let whole : to_z w128 (of_z w128 c.from.result) ≡ (c.args.v +ℤ pos 0) = sum ∙ omega (arith, ints) in
    let filter = c.of.ensures ∙ ap filter_of value in
    λ i. record {
      count = 1;
      sum = whole i;
      min = value i;
      max = value i;
      t_first = c.args.t;
      t_last = c.args.t;
      filter = filter i;
    }

pub invariant_of-result : goal.invariant_of-result
invariant_of-result c = subst IsPossible (sym (returns c)) (IsPossible-one c.args.t c.args.v New c.requires c.ranges.v)
