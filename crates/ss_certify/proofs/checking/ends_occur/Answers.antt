use Rattle.std.proofs.Common.{ap, ◌∙◌}
use Rattle.std.proofs.lemmas.Int.{to_z-of_z}
use Rattle.ss_bounds.specs.Split.{SplitFigures}
use Rattle.ss_certify.proofs.TestLemmas.{both-passed, both-failed}
use Rattle.ss_certify.proofs.checking.ends_occur.Goals as goal

pub returns-then-occurs : goal.returns-then-occurs
returns-then-occurs c =
    let min_is = to_z-of_z _ _ c.split.invariant.min_fits ∙ ap (λ (s : SplitFigures). s.min) c.split.view_is in
    let max_is = to_z-of_z _ _ c.split.invariant.max_fits ∙ ap (λ (s : SplitFigures). s.max) c.split.view_is in
    both-passed _ _ c.if-occurs.true (rw min_is at c.occurs.ensures) (rw max_is at c.occurs-then-occurs.ensures)

pub returns-else-occurs : goal.returns-else-occurs
returns-else-occurs c =
    let min_is = to_z-of_z _ _ c.split.invariant.min_fits ∙ ap (λ (s : SplitFigures). s.min) c.split.view_is in
    both-failed _ c.if-occurs.false (rw min_is at c.occurs.ensures)
