use Rattle.std.proofs.Common.{◌∙◌, ap₂, ap}
use Rattle.std.specs.Prelude.{ℤ}
use Rattle.ss_query.proofs.NearSums.{held-three, three}
use Rattle.ss_query.proofs.answering.sums_seen.Goals as goal

pub returns : goal.returns
returns c =
    ap₂ (λ (lo hi : ℤ). (lo, hi)) (held-three c.known_sum-known.result c.sums_of-left.result.0 c.sums_of-right.result.0 c.known_sum-known.ensures.near
    c.sums_of-left.ensures.near.0 c.sums_of-right.ensures.near.0)
    (held-three c.known_sum-known.result c.sums_of-left.result.1 c.sums_of-right.result.1 c.known_sum-known.ensures.near
    c.sums_of-left.ensures.near.1 c.sums_of-right.ensures.near.1)
    ∙ ap₂ (λ (lo hi : ℤ). (lo, hi))
    (three _ _ _ _ _ _ c.known_sum-known.ensures.value (ap (λ (p : ℤ × ℤ). p.0) c.sums_of-left.ensures.value)
    (ap (λ (p : ℤ × ℤ). p.0) c.sums_of-right.ensures.value))
    (three _ _ _ _ _ _ c.known_sum-known.ensures.value (ap (λ (p : ℤ × ℤ). p.1) c.sums_of-left.ensures.value)
    (ap (λ (p : ℤ × ℤ). p.1) c.sums_of-right.ensures.value))
