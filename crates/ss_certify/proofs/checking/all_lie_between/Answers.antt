use Rattle.std.proofs.Common.{ap, ◌∙◌}
use Rattle.std.proofs.lemmas.Int.{to_z-of_z}
use Rattle.ss_bounds.specs.Split.{SplitFigures}
use Rattle.ss_certify.proofs.TestLemmas.{both-passed, both-failed}
use Rattle.ss_certify.proofs.checking.all_lie_between.Goals as goal

pub returns-then-lie_between : goal.returns-then-lie_between
returns-then-lie_between c =
    let min_is = to_z-of_z _ _ c.split.invariant.min_fits ∙ ap (λ (s : SplitFigures). s.min) c.split.view_is in
    let max_is = to_z-of_z _ _ c.split.invariant.max_fits ∙ ap (λ (s : SplitFigures). s.max) c.split.view_is in
    both-passed _ _ c.if-lie_between.true (rw (min_is, max_is, c.as_slice.ensures.value) at c.lie_between.ensures)
    (rw (min_is, max_is, c.as_slice-then-lie_between.ensures.value) at c.lie_between-then-lie_between.ensures)

pub returns-else-lie_between : goal.returns-else-lie_between
returns-else-lie_between c =
    let min_is = to_z-of_z _ _ c.split.invariant.min_fits ∙ ap (λ (s : SplitFigures). s.min) c.split.view_is in
    let max_is = to_z-of_z _ _ c.split.invariant.max_fits ∙ ap (λ (s : SplitFigures). s.max) c.split.view_is in
    both-failed _ c.if-lie_between.false (rw (min_is, max_is, c.as_slice.ensures.value) at c.lie_between.ensures)
