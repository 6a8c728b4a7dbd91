-- What the code computes of sums is these sums.
use Rattle.std.specs.Prelude.{◌≡◌, ℕ, ◌-◌, ℤ, pos, ◌-ℤ◌, ◌*ℤ◌, ◌≤ℤ◌, FitsSigned}
use Rattle.std.proofs.Common.{ap, ap₂, arith, subst, sym}
use Rattle.std.proofs.lemmas.Int.{ints, to_z-of_z}
use Rattle.std.specs.Int.{w64, w128}
use Rattle.ss_bounds.specs.Parted.{CanBeParted}
use Rattle.ss_bounds.specs.Split.{IsSplit, SplitFigures}
use Rattle.ss_bounds.proofs.Held.{held, held-is, held64, sum-fits}
use Rattle.ss_bounds.proofs.Numbers.{times-down, times-up}

-- what is left of the sum for the values outside the range
module _ (s : SplitFigures) (split : IsSplit s) (x : ℕ) (sum : ℤ) (fits : FitsSigned w128 sum) (can : CanBeParted s x sum) where
  left-is : (held s.sum -ℤ held sum) ≡ (s.sum -ℤ sum)
  left-is = ap₂ (λ a b. a -ℤ b) (to_z-of_z w128 s.sum (sum-fits s split)) (to_z-of_z w128 sum fits)

  left-fits : FitsSigned w128 (s.sum -ℤ sum)
  left-fits =
      let few = split.count_high in
      let high = times-up (s.count - x) s.max (omega arith) split.max_fits in
      let low = times-down (s.count - x) s.min (omega arith) split.min_fits in
      omega (arith, ints, can.outside.low, can.outside.high)

  pub computed-left_fits : FitsSigned w128 (held s.sum -ℤ held sum)
  computed-left_fits = subst (FitsSigned w128) (sym left-is) left-fits

  pub computed-left : held (held s.sum -ℤ held sum) ≡ (s.sum -ℤ sum)
  computed-left = held-is _ _ left-is left-fits

  pub computed-left_low : (pos (s.count - x) *ℤ held64 s.min) ≤ℤ held (held s.sum -ℤ held sum)
  computed-left_low =
      let least = ap (λ z. pos (s.count - x) *ℤ z) (to_z-of_z w64 s.min split.min_fits) in
      let left = computed-left in
      omega (arith, ints, can.outside.low)

  pub computed-left_high : held (held s.sum -ℤ held sum) ≤ℤ (pos (s.count - x) *ℤ held64 s.max)
  computed-left_high =
      let greatest = ap (λ z. pos (s.count - x) *ℤ z) (to_z-of_z w64 s.max split.max_fits) in
      let left = computed-left in
      omega (arith, ints, can.outside.high)
