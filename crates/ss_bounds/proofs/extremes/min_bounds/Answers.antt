use Rattle.std.proofs.Common.{ℤ, Option, ap}
use Rattle.ss_bounds.proofs.EitherLemmas.{found-min_interval}
use Rattle.ss_bounds.proofs.extremes.min_bounds.Goals as goal

pub returns : goal.returns
returns c =
    let left_can = ap (λ (p : Option (ℤ × ℤ) × Option (ℤ × ℤ)). p.0) c.held_extremes-left_can.ensures in
    let left_must = ap (λ (p : Option (ℤ × ℤ) × Option (ℤ × ℤ)). p.1) c.held_extremes-left_can.ensures in
    let right_can = ap (λ (p : Option (ℤ × ℤ) × Option (ℤ × ℤ)). p.0) c.held_extremes-right_can.ensures in
    let right_must = ap (λ (p : Option (ℤ × ℤ) × Option (ℤ × ℤ)). p.1) c.held_extremes-right_can.ensures in
    let found = found-min_interval c.args.exact c.args.left c.args.right in
    cc
