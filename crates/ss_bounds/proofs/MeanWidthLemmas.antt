-- The interval of a mean is no wider than that of the sum over that of the count.
use Rattle.std.specs.Prelude.{◌⊎◌, ℕ, ◌+◌, ◌-◌, ◌≤◌, max, nat_le, Bool, true, false, ℤ, pos, ◌≤ℤ◌, List, [], ◌∷◌, Option, None, Some, sum_by}
use Rattle.std.specs.Option.{option_map}
use Rattle.std.proofs.Common.{ap, arith, inl, inr}
use Rattle.std.proofs.lemmas.Int.{ints, by_lt_z}
use Rattle.std.proofs.lemmas.List.Sums.{sum_by-cons}
use Rattle.ss_summary.proofs.Bounds.{times-le-times}
use Rattle.ss_bounds.specs.declared.fraction.Fraction.{Fraction}
use Rattle.ss_bounds.specs.Fractions.{IsAtMost, at_most, at_least, lowest}
use Rattle.ss_bounds.specs.Guess.{AreAllSplit}
use Rattle.ss_bounds.specs.Means.{AddsUpTo, best_mean, mean_from, mean_interval, so_many, with_values}
use Rattle.ss_bounds.specs.MeanTruth.{IsNoWider, counts_between, sums_between}
use Rattle.ss_bounds.specs.Split.{SplitFigures, least_count, greatest_count, low_sum, high_sum}
use Rattle.ss_bounds.proofs.FractionLemmas.{IsAtMost-IsSame, IsAtMost-trans, IsSame-sym, IsOrder-at_least, IsOrder-at_most}
use Rattle.ss_bounds.proofs.LowestLemmas.{IsLowest-lowest}
use Rattle.ss_bounds.proofs.BestLemmas.{AreAllSplit-ordered, IsBest, IsBest-best_mean}
use Rattle.ss_bounds.proofs.Numbers.{minus-times, more-times}
use Rattle.ss_bounds.proofs.TruthLemmas.{sum_interval-at}

-- what is reached has a count and a sum of their intervals
counts-reached : (sum : SplitFigures → ℕ → ℤ) (known : Fraction) (splits : List SplitFigures) (v : Fraction) → AddsUpTo sum known splits v
    → (known.under + sum_by least_count splits ≤ v.under) × (v.under ≤ known.under + sum_by greatest_count splits)
counts-reached sum known [] v is = let under = ap (λ (f : Fraction). f.under) is in (omega arith, omega arith)
counts-reached sum known (s ∷ splits) v (x, from, to, reached) =
    let rest = counts-reached sum (with_values known (so_many (sum s) x)) splits v reached in
    let least = sum_by-cons least_count s splits in
    let greatest = sum_by-cons greatest_count s splits in
    (omega (arith, rest.0), omega (arith, rest.1))

low-sum_reached : (known : Fraction) (splits : List SplitFigures) (v : Fraction) → AddsUpTo low_sum known splits v
    → (sums_between known splits).0 ≤ℤ v.over
low-sum_reached known [] v is = let over = ap (λ (f : Fraction). f.over) is in omega (arith, ints)
low-sum_reached known (s ∷ splits) v (x, from, to, reached) =
    let rest = low-sum_reached (with_values known (so_many (low_sum s) x)) splits v reached in
    let at = sum_interval-at s x from to in
    omega (arith, ints, rest, at.0)

high-sum_reached : (known : Fraction) (splits : List SplitFigures) (v : Fraction) → AddsUpTo high_sum known splits v
    → v.over ≤ℤ (sums_between known splits).1
high-sum_reached known [] v is = let over = ap (λ (f : Fraction). f.over) is in omega (arith, ints)
high-sum_reached known (s ∷ splits) v (x, from, to, reached) =
    let rest = high-sum_reached (with_values known (so_many (high_sum s) x)) splits v reached in
    let at = sum_interval-at s x from to in
    omega (arith, ints, rest, at.1)

-- a mean lies within a sum over one of two counts that its own lies between
below-quotient : (v : Fraction) (top : ℤ) (a b : ℕ) → a ≤ v.under → v.under ≤ b → v.over ≤ℤ top
    → IsAtMost v (so_many (λ n. top) a) ⊎ IsAtMost v (so_many (λ n. top) b)
below-quotient v top a b few many less = by_lt_z top (pos 0)
    (λ down.
    let scaled = times-le-times b v.over top less in
    let rest = minus-times b v.under top many in
    let fewer = times-le-times (b - v.under) top (pos 0) (omega (arith, ints)) in
    inr (record { crosswise = omega (arith, ints) }))
    (λ up.
    let scaled = times-le-times a v.over top less in
    let more = more-times a v.under top few up in
    inl (record { crosswise = omega (arith, ints) }))

above-quotient : (v : Fraction) (bottom : ℤ) (a b : ℕ) → a ≤ v.under → v.under ≤ b → bottom ≤ℤ v.over
    → IsAtMost (so_many (λ n. bottom) a) v ⊎ IsAtMost (so_many (λ n. bottom) b) v
above-quotient v bottom a b few many less = by_lt_z bottom (pos 0)
    (λ down.
    let scaled = times-le-times a bottom v.over less in
    let rest = minus-times v.under a bottom few in
    let fewer = times-le-times (v.under - a) bottom (pos 0) (omega (arith, ints)) in
    inl (record { crosswise = omega (arith, ints) }))
    (λ up.
    let scaled = times-le-times b bottom v.over less in
    let more = more-times v.under b bottom many up in
    inr (record { crosswise = omega (arith, ints) }))

module _ (known : Fraction) (splits : List SplitFigures) where
  lowest-above : (l : Fraction) → IsBest IsOrder-at_most (AddsUpTo low_sum known splits) (Some l)
      → IsAtMost (so_many (λ n. (sums_between known splits).0) (max 1 (counts_between known splits).0)) (lowest l)
      ⊎ IsAtMost (so_many (λ n. (sums_between known splits).0) (counts_between known splits).1) (lowest l)
  lowest-above l best =
      let counts = counts-reached low_sum known splits l best.reached in
      let more = best.some in
      let same = IsAtMost-IsSame l (lowest l) (IsLowest-lowest l best.some).same in
      elim (above-quotient l (sums_between known splits).0 (max 1 (counts_between known splits).0) (counts_between known splits).1
      (omega (arith, counts.0)) counts.1 (low-sum_reached known splits l best.reached)) [
        | inl first ↦ inl (IsAtMost-trans _ l (lowest l) best.some first same)
        | inr second ↦ inr (IsAtMost-trans _ l (lowest l) best.some second same)
      ]

  lowest-below : (h : Fraction) → IsBest IsOrder-at_least (AddsUpTo high_sum known splits) (Some h)
      → IsAtMost (lowest h) (so_many (λ n. (sums_between known splits).1) (max 1 (counts_between known splits).0))
      ⊎ IsAtMost (lowest h) (so_many (λ n. (sums_between known splits).1) (counts_between known splits).1)
  lowest-below h best =
      let counts = counts-reached high_sum known splits h best.reached in
      let more = best.some in
      let same = IsAtMost-IsSame (lowest h) h (IsSame-sym h (lowest h) (IsLowest-lowest h best.some).same) in
      elim (below-quotient h (sums_between known splits).1 (max 1 (counts_between known splits).0) (counts_between known splits).1
      (omega (arith, counts.0)) counts.1 (high-sum_reached known splits h best.reached)) [
        | inl first ↦ inl (IsAtMost-trans (lowest h) h _ best.some same first)
        | inr second ↦ inr (IsAtMost-trans (lowest h) h _ best.some same second)
      ]

  no-wider-from : (sure : Bool) (lo hi : Option Fraction) → IsBest IsOrder-at_most (AddsUpTo low_sum known splits) lo
      → IsBest IsOrder-at_least (AddsUpTo high_sum known splits) hi
      → IsNoWider (sums_between known splits) (counts_between known splits) (mean_from sure (option_map lowest lo) (option_map lowest hi))
  no-wider-from sure None hi first second = tt
  no-wider-from sure (Some l) None first second = tt
  no-wider-from true (Some l) (Some h) first second = record { low = lowest-above l first; high = lowest-below h second }
  no-wider-from false (Some l) (Some h) first second = record { low = lowest-above l first; high = lowest-below h second }

pub mean_interval-IsNoWider : (known : Fraction) (splits : List SplitFigures) → AreAllSplit splits
    → IsNoWider (sums_between known splits) (counts_between known splits) (mean_interval known splits)
unfolding mean_interval
mean_interval-IsNoWider known splits all =
    let ordered = AreAllSplit-ordered splits all in
    no-wider-from known splits (nat_le 1 (known.under + sum_by least_count splits))
    (best_mean at_most low_sum known splits) (best_mean at_least high_sum known splits)
    (IsBest-best_mean IsOrder-at_most low_sum known splits ordered)
    (IsBest-best_mean IsOrder-at_least high_sum known splits ordered)
