-- Several intervals together hold what each holds together.
use Rattle.std.specs.Prelude.{ℕ, ℤ, List, [], ◌∷◌, sum, Option, None, Some}
use Rattle.std.proofs.Common.{arith, lit≤}
use Rattle.std.proofs.lemmas.Int.{ints, clamps}
use Rattle.std.proofs.lemmas.List.Sums.{sum_by-cons}
use Rattle.ss_bounds.specs.declared.extreme.Extreme.{Extreme}
use Rattle.ss_bounds.specs.declared.extreme.Extreme.TheVariants.{Nothing, Sure, Maybe}
use Rattle.ss_bounds.specs.Either.{lesser, greater}
use Rattle.ss_bounds.specs.Truth.{total, HoldsExtreme}
use Rattle.ss_bounds.specs.Several.{HoldsCount, HoldsSum, EachHolds, known, truths, sum_of_counts, sum_of_sums, lesser_of, greater_of}
use Rattle.ss_bounds.specs.Several.{least_of_all, greatest_of_all, least_truth, greatest_truth}

pub HoldsCount-sum : (each : List ((ℕ × ℕ) × ℕ)) → EachHolds HoldsCount each → HoldsCount (sum_of_counts (known each)) (sum (truths each))
HoldsCount-sum [] holds = (lit≤ tt, lit≤ tt)
HoldsCount-sum (k ∷ each) holds =
    let rest = HoldsCount-sum each holds.1 in
    let low = sum_by-cons (λ (i : ℕ × ℕ). i.0) k.0 (known each) in
    let high = sum_by-cons (λ (i : ℕ × ℕ). i.1) k.0 (known each) in
    let truth = sum_by-cons (λ (n : ℕ). n) k.1 (truths each) in
    (omega (arith, rest.0, holds.0.0), omega (arith, rest.1, holds.0.1))

pub HoldsSum-total : (each : List ((ℤ × ℤ) × ℤ)) → EachHolds HoldsSum each → HoldsSum (sum_of_sums (known each)) (total (truths each))
HoldsSum-total [] holds = (omega (arith, ints), omega (arith, ints))
HoldsSum-total (k ∷ each) holds =
    let rest = HoldsSum-total each holds.1 in
    (omega (arith, ints, rest.0, holds.0.0), omega (arith, ints, rest.1, holds.0.1))

HoldsExtreme-lesser_of : (a b : Extreme) (v w : Option ℤ) → HoldsExtreme a v → HoldsExtreme b w → HoldsExtreme (lesser_of a b) (lesser v w)
HoldsExtreme-lesser_of Nothing b None w first second = second
HoldsExtreme-lesser_of Nothing b (Some v) w first second = absurd first
HoldsExtreme-lesser_of (Sure l h) b None w first second = absurd first
HoldsExtreme-lesser_of (Sure l h) Nothing (Some v) None first second = first
HoldsExtreme-lesser_of (Sure l h) Nothing (Some v) (Some w) first second = absurd second
HoldsExtreme-lesser_of (Sure l h) (Sure m i) (Some v) None first second = absurd second
HoldsExtreme-lesser_of (Sure l h) (Sure m i) (Some v) (Some w) first second =
    (omega (arith, ints, clamps, first, second), omega (arith, ints, clamps, first, second))
HoldsExtreme-lesser_of (Sure l h) (Maybe m i) (Some v) None first second =
    (omega (arith, ints, clamps, first), omega (arith, ints, clamps, first))
HoldsExtreme-lesser_of (Sure l h) (Maybe m i) (Some v) (Some w) first second =
    (omega (arith, ints, clamps, first, second), omega (arith, ints, clamps, first, second))
HoldsExtreme-lesser_of (Maybe l h) Nothing None None first second = tt
HoldsExtreme-lesser_of (Maybe l h) Nothing (Some v) None first second = first
HoldsExtreme-lesser_of (Maybe l h) Nothing v (Some w) first second = absurd second
HoldsExtreme-lesser_of (Maybe l h) (Sure m i) v None first second = absurd second
HoldsExtreme-lesser_of (Maybe l h) (Sure m i) None (Some w) first second =
    (omega (arith, ints, clamps, second), omega (arith, ints, clamps, second))
HoldsExtreme-lesser_of (Maybe l h) (Sure m i) (Some v) (Some w) first second =
    (omega (arith, ints, clamps, first, second), omega (arith, ints, clamps, first, second))
HoldsExtreme-lesser_of (Maybe l h) (Maybe m i) None None first second = tt
HoldsExtreme-lesser_of (Maybe l h) (Maybe m i) (Some v) None first second =
    (omega (arith, ints, clamps, first), omega (arith, ints, clamps, first))
HoldsExtreme-lesser_of (Maybe l h) (Maybe m i) None (Some w) first second =
    (omega (arith, ints, clamps, second), omega (arith, ints, clamps, second))
HoldsExtreme-lesser_of (Maybe l h) (Maybe m i) (Some v) (Some w) first second =
    (omega (arith, ints, clamps, first, second), omega (arith, ints, clamps, first, second))

HoldsExtreme-greater_of : (a b : Extreme) (v w : Option ℤ) → HoldsExtreme a v → HoldsExtreme b w → HoldsExtreme (greater_of a b) (greater v w)
HoldsExtreme-greater_of Nothing b None w first second = second
HoldsExtreme-greater_of Nothing b (Some v) w first second = absurd first
HoldsExtreme-greater_of (Sure l h) b None w first second = absurd first
HoldsExtreme-greater_of (Sure l h) Nothing (Some v) None first second = first
HoldsExtreme-greater_of (Sure l h) Nothing (Some v) (Some w) first second = absurd second
HoldsExtreme-greater_of (Sure l h) (Sure m i) (Some v) None first second = absurd second
HoldsExtreme-greater_of (Sure l h) (Sure m i) (Some v) (Some w) first second =
    (omega (arith, ints, clamps, first, second), omega (arith, ints, clamps, first, second))
HoldsExtreme-greater_of (Sure l h) (Maybe m i) (Some v) None first second =
    (omega (arith, ints, clamps, first), omega (arith, ints, clamps, first))
HoldsExtreme-greater_of (Sure l h) (Maybe m i) (Some v) (Some w) first second =
    (omega (arith, ints, clamps, first, second), omega (arith, ints, clamps, first, second))
HoldsExtreme-greater_of (Maybe l h) Nothing None None first second = tt
HoldsExtreme-greater_of (Maybe l h) Nothing (Some v) None first second = first
HoldsExtreme-greater_of (Maybe l h) Nothing v (Some w) first second = absurd second
HoldsExtreme-greater_of (Maybe l h) (Sure m i) v None first second = absurd second
HoldsExtreme-greater_of (Maybe l h) (Sure m i) None (Some w) first second =
    (omega (arith, ints, clamps, second), omega (arith, ints, clamps, second))
HoldsExtreme-greater_of (Maybe l h) (Sure m i) (Some v) (Some w) first second =
    (omega (arith, ints, clamps, first, second), omega (arith, ints, clamps, first, second))
HoldsExtreme-greater_of (Maybe l h) (Maybe m i) None None first second = tt
HoldsExtreme-greater_of (Maybe l h) (Maybe m i) (Some v) None first second =
    (omega (arith, ints, clamps, first), omega (arith, ints, clamps, first))
HoldsExtreme-greater_of (Maybe l h) (Maybe m i) None (Some w) first second =
    (omega (arith, ints, clamps, second), omega (arith, ints, clamps, second))
HoldsExtreme-greater_of (Maybe l h) (Maybe m i) (Some v) (Some w) first second =
    (omega (arith, ints, clamps, first, second), omega (arith, ints, clamps, first, second))

pub HoldsExtreme-least : (each : List (Extreme × Option ℤ)) → EachHolds HoldsExtreme each
    → HoldsExtreme (least_of_all (known each)) (least_truth (truths each))
HoldsExtreme-least [] holds = tt
HoldsExtreme-least (k ∷ each) holds =
    HoldsExtreme-lesser_of k.0 (least_of_all (known each)) k.1 (least_truth (truths each)) holds.0 (HoldsExtreme-least each holds.1)

pub HoldsExtreme-greatest : (each : List (Extreme × Option ℤ)) → EachHolds HoldsExtreme each
    → HoldsExtreme (greatest_of_all (known each)) (greatest_truth (truths each))
HoldsExtreme-greatest [] holds = tt
HoldsExtreme-greatest (k ∷ each) holds =
    HoldsExtreme-greater_of k.0 (greatest_of_all (known each)) k.1 (greatest_truth (truths each)) holds.0 (HoldsExtreme-greatest each holds.1)
