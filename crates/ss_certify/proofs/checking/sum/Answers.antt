use Rattle.std.proofs.Common.{arith, ap, ap₂, ◌∙◌, FitsSigned, ◌+ℤ◌}
use Rattle.std.specs.Int.{w128}
use Rattle.std.proofs.lemmas.Int.{ints, to_z-of_z}
use Rattle.ss_certify.specs.Runs.{run_count, run_total}
use Rattle.ss_certify.proofs.checking.sum.Goals as goal
use Rattle.ss_certify.proofs.checking.sum.Goals.{After-total-2}

-- so few values have a sum of 128 bits
fits : (c : After-total-2) → FitsSigned w128 (c.total.result +ℤ c.total-2.result)
fits c =
    let inside = ap run_count c.as_slice.ensures.value in
    let outside = ap run_count c.as_slice-2.ensures.value in
    omega (arith, ints, c.total.ensures.near, c.total-2.ensures.near, c.requires)

pub overflow_add-result : goal.overflow_add-result
overflow_add-result c =
    let sum_fits = fits c in
    let first = to_z-of_z w128 c.total.result (record { sfits = c.total.type_inv }) in
    let second = to_z-of_z w128 c.total-2.result (record { sfits = c.total-2.type_inv }) in
    rw (first, second) sum_fits

pub returns : goal.returns
returns c =
    let first = to_z-of_z w128 c.total.result (record { sfits = c.total.type_inv }) in
    let second = to_z-of_z w128 c.total-2.result (record { sfits = c.total-2.type_inv }) in
    let inside = c.total.ensures.value ∙ ap run_total c.as_slice.ensures.value in
    let outside = c.total-2.ensures.value ∙ ap run_total c.as_slice-2.ensures.value in
    rw (first, second) (to_z-of_z w128 _ (fits c) ∙ ap₂ (λ a b. a +ℤ b) inside outside)
