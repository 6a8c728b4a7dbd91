use Rattle.std.proofs.Common.{◌∙◌, ap, sym}
use Rattle.ss_query.specs.Asked.{seen_sum}
use Rattle.ss_summary.specs.Figures.{Figures}
use Rattle.std.specs.Prelude.{◌+ℤ◌, Option}
use Rattle.ss_query.proofs.NearSums.{known-fits, known-held, known-near, sum-near}
use Rattle.ss_query.proofs.answering.known_sum.Goals as goal

pub overflow_add-result : goal.overflow_add-result
overflow_add-result c = known-fits c.summary.inside.sum c.args.marked.sum (sum-near _ c.summary.invariant) c.requires.sum

pub returns-in-Some-clause-value : goal.returns-in-Some-clause-value
returns-in-Some-clause-value c =
    known-held c.summary.inside.sum c.args.marked.sum (sum-near _ c.summary.invariant) c.requires.sum
    ∙ ap (λ (f : Figures). f.sum +ℤ c.args.marked.sum) c.summary.view_is
    ∙ sym (ap (λ (whole : Option Figures). seen_sum whole c.args.marked) c.in-Some.is)

pub returns-in-Some-clause-near : goal.returns-in-Some-clause-near
returns-in-Some-clause-near c = known-near c.summary.inside.sum c.args.marked.sum (sum-near _ c.summary.invariant) c.requires.sum
