use Rattle.std.proofs.Common.{◌≡◌, ℕ, ℤ, ap, subst, sym, ◌∙◌}
use Rattle.ss_bounds.specs.Split.{SplitFigures, count_interval, low_sum, sum_interval}
use Rattle.ss_bounds.specs.Lines.{IsLeast}
use Rattle.ss_bounds.proofs.LeastLemmas.{difference-fits, computed-sums}
use Rattle.ss_bounds.proofs.bounds.sum_bounds.Goals as goal

-- the least sum of some numbers of values, of the window by its fields
least_at : (s t : SplitFigures) (a b : ℕ) (v : ℤ) → s ≡ t → IsLeast (low_sum t) a b v → IsLeast (low_sum s) a b v
least_at s t a b v same = subst (λ z. IsLeast (low_sum z) a b v) (sym same)

pub overflow_sub-result : goal.overflow_sub-result
overflow_sub-result c =
    let counts = c.count_bounds-fewest.ensures ∙ ap count_interval (sym c.split.view_is) in
    let rest = least_at _ _ _ _ _ c.split.view_is c.least_low_sum-rest.ensures in
    difference-fits _ c.split.invariant _ _ c.least_low_sum-lo.result _ counts rest (record { sfits = c.least_low_sum-rest.type_inv })

pub returns : goal.returns
returns c =
    let counts = c.count_bounds-fewest.ensures ∙ ap count_interval (sym c.split.view_is) in
    let lo = least_at _ _ _ _ _ c.split.view_is c.least_low_sum-lo.ensures in
    let rest = least_at _ _ _ _ _ c.split.view_is c.least_low_sum-rest.ensures in
    computed-sums _ c.split.invariant _ _ _ _ counts rest (record { sfits = c.least_low_sum-rest.type_inv }) lo (record { sfits = c.least_low_sum-lo.type_inv })
    ∙ ap sum_interval c.split.view_is
