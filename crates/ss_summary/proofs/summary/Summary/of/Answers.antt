use Rattle.std.proofs.Common.{refl, sym, ◌∙◌}
use Rattle.std.specs.Int.{w64, w128}
use Rattle.std.proofs.lemmas.Int.{to_z-of_z}
use Rattle.ss_summary.specs.Figures.{IsPossible}
use Rattle.ss_summary.proofs.PossibleLemmas.{IsPossible-tests}
use Rattle.ss_summary.proofs.summary.Summary.of.Goals as goal
use Rattle.ss_summary.proofs.summary.Summary.of.Goals.{After-words_fit}

-- what was tested is that the figures are possible
possible : (c : After-words_fit) → IsPossible (record {
  count = c.args.count;
  sum = c.args.sum;
  min = c.args.min;
  max = c.args.max;
  t_first = c.args.t_first;
  t_last = c.args.t_last;
  filter = c.args.filter;
})
possible c =
    let sum_is = to_z-of_z w128 c.args.sum c.ranges.sum in
    let min_is = to_z-of_z w64 c.args.min c.ranges.min in
    let max_is = to_z-of_z w64 c.args.max c.ranges.max in
    let tested = rw (sum_is, min_is, max_is) at c.has_sum.ensures in
    let bits = rw (min_is, max_is) at c.has_bits.ensures in
    IsPossible-tests _ (sym c.has_times.ensures ∙ c.if-not-has_times.false) c.ranges.min c.ranges.max (sym tested ∙ c.if-not-has_sum.false) c.words_fit.ensures
    (sym bits ∙ c.if-not-has_bits.false)

pub invariant_of-result : goal.invariant_of-result
invariant_of-result c =
    let sum_is = to_z-of_z w128 c.args.sum c.ranges.sum in
    let min_is = to_z-of_z w64 c.args.min c.ranges.min in
    let max_is = to_z-of_z w64 c.args.max c.ranges.max in
    rw (sum_is, min_is, max_is) (possible c)

pub returns-clause-possible : goal.returns-clause-possible
returns-clause-possible c = (λ _. possible c, λ _. refl)
