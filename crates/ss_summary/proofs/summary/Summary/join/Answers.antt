use Rattle.std.proofs.Common.{arith, ◌∙◌, sym, subst, ap₂}
use Rattle.std.proofs.lemmas.Int.{ints}
use Rattle.std.proofs.lemmas.List.{length-append}
use Rattle.ss_summary.specs.Figures.{IsPossible}
use Rattle.ss_summary.specs.Summaries.{joined}
use Rattle.ss_summary.proofs.SummaryLemmas.{IsPossible-joined, IsPossible-sum, computed-joined, joined-summary_of}
use Rattle.ss_summary.proofs.summary.Summary.join.Goals as goal

-- the arguments, joined, are possible
possible : (c : goal.After-union) → IsPossible (joined c.args.a c.args.b)
possible c =
    let left = subst IsPossible c.a.view_is c.a.invariant in
    let right = subst IsPossible c.b.view_is c.b.invariant in
    IsPossible-joined c.args.a c.args.b left right c.requires.later c.requires.few

pub overflow_add-result-2 : goal.overflow_add-result-2
overflow_add-result-2 c =
    let small_left = IsPossible-sum _ c.a.invariant in
    let small_right = IsPossible-sum _ c.b.invariant in
    omega (arith, ints)

pub returns-clause-exact : goal.returns-clause-exact
returns-clause-exact c =
    let same = ap₂ joined c.a.view_is c.b.view_is in
    let both = subst IsPossible (sym same) (possible c) in
    computed-joined _ _ _ _ _ c.a.invariant c.b.invariant both c.min.ensures.value c.max.ensures.value c.union.ensures ∙ same

pub invariant_of-result : goal.invariant_of-result
invariant_of-result c = subst IsPossible (sym (returns-clause-exact c)) (possible c)

pub returns-clause-lists : goal.returns-clause-lists
returns-clause-lists c xs ys left right = record {
  some = omega (arith, length-append xs ys);
  is = returns-clause-exact c ∙ ap₂ joined left.is right.is ∙ joined-summary_of xs ys left.some right.some;
}
