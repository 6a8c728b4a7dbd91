-- Worked rows, each computed.
use Rattle.std.proofs.Common.{◌≡◌, ◌^◌, ℕ, false, true, Bool, [], ◌∷◌, List, map, refl, lit≤, arith}
use Rattle.ss_targets.specs.Windowing.{cut, fits, window_index}
use Rattle.ss_targets.specs.Power.{IsPower, group_size, group_length, power_length}
use Rattle.ss_targets.specs.PowerSum.{cap, power_sum}
use Rattle.ss_targets.specs.declared.power.TheConstants.{LEAST_POWER, GREATEST_POWER, GREATEST_WIDENING, MOST_TICKS}
use Rattle.ss_targets.specs.declared.power_sum.TheConstants.{GREATEST_EXPONENT}

powers : LEAST_POWER ∷ GREATEST_POWER ∷ GREATEST_WIDENING ∷ [] ≡ 1 ∷ 4 ∷ 3 ∷ []
powers = refl

most_ticks : MOST_TICKS ≡ 44
most_ticks = refl

greatest_exponent : GREATEST_EXPONENT ≡ 6
greatest_exponent = refl

-- the first lengths of a target, and the first starts
abbrev lengths : (ℕ → ℕ) → List ℕ
lengths len = map len (0 ∷ 1 ∷ 2 ∷ 3 ∷ 4 ∷ [])

abbrev starts : (ℕ → ℕ) → List ℕ
starts len = map (cut len) (0 ∷ 1 ∷ 2 ∷ 3 ∷ 4 ∷ 5 ∷ [])

lengths-1-1-1-1 : lengths (power_length 1 1 1 1) ≡ 1 ∷ 2 ∷ 3 ∷ 4 ∷ 5 ∷ []
unfolding power_length window_index
lengths-1-1-1-1 = refl

starts-1-1-1-1 : starts (power_length 1 1 1 1) ≡ 0 ∷ 1 ∷ 3 ∷ 6 ∷ 10 ∷ 15 ∷ []
unfolding power_length window_index
starts-1-1-1-1 = refl

lengths-2-1-1-1 : lengths (power_length 2 1 1 1) ≡ 1 ∷ 2 ∷ 2 ∷ 3 ∷ 3 ∷ []
unfolding power_length window_index
lengths-2-1-1-1 = refl

starts-2-1-1-1 : starts (power_length 2 1 1 1) ≡ 0 ∷ 1 ∷ 3 ∷ 5 ∷ 8 ∷ 11 ∷ []
unfolding power_length window_index
starts-2-1-1-1 = refl

lengths-1-0-1-2 : lengths (power_length 1 0 1 2) ≡ 2 ∷ 2 ∷ 2 ∷ 2 ∷ 2 ∷ []
unfolding power_length window_index
lengths-1-0-1-2 = refl

starts-1-0-1-2 : starts (power_length 1 0 1 2) ≡ 0 ∷ 2 ∷ 4 ∷ 6 ∷ 8 ∷ 10 ∷ []
unfolding power_length window_index
starts-1-0-1-2 = refl

-- the groups of the target with the greatest parameters
groups-greatest : map (group_size 4 65536) (0 ∷ 1 ∷ 2 ∷ []) ≡ 65536 ∷ 524288 ∷ 1769472 ∷ []
groups-greatest = refl

group_lengths-greatest : map (group_length 3 65536) (0 ∷ 1 ∷ 2 ∷ []) ≡ 65536 ∷ 524288 ∷ 1769472 ∷ []
group_lengths-greatest = refl

exponents : List ℕ
exponents = 0 ∷ 1 ∷ 2 ∷ 3 ∷ 4 ∷ 5 ∷ 6 ∷ []

sums-none : map (λ e. power_sum e 0) exponents ≡ 0 ∷ 0 ∷ 0 ∷ 0 ∷ 0 ∷ 0 ∷ 0 ∷ []
unfolding exponents
sums-none = refl

sums-ten : map (λ e. power_sum e 10) exponents ≡ 10 ∷ 55 ∷ 385 ∷ 3025 ∷ 25333 ∷ 220825 ∷ 1978405 ∷ []
unfolding exponents
sums-ten = refl

caps : map cap exponents ≡ 2 ^ 42 ∷ 2 ^ 22 ∷ 2 ^ 15 ∷ 2 ^ 12 ∷ 2 ^ 10 ∷ 2 ^ 8 ∷ 2 ^ 7 ∷ []
unfolding exponents
caps = refl

-- whether the positions l to r lie in one target window, at each of some counts
fit_at : (ℕ → ℕ) → ℕ → ℕ → List ℕ → List Bool
fit_at len l r = map (fits len l r)

-- the first fit of 1..2 seen at 2 is 3, that of 1..4 seen at 5 is 10, and four positions never fit into two
fit-1-2 : fit_at (power_length 1 1 1 1) 1 2 (2 ∷ 3 ∷ []) ≡ false ∷ true ∷ []
unfolding fit_at power_length window_index
fit-1-2 = refl

fit-1-4 : fit_at (power_length 1 1 1 1) 1 4 (5 ∷ 6 ∷ 7 ∷ 8 ∷ 9 ∷ 10 ∷ []) ≡ false ∷ false ∷ false ∷ false ∷ false ∷ true ∷ []
unfolding fit_at power_length window_index
fit-1-4 = refl

fit-never : fit_at (power_length 1 0 1 2) 1 4 (4 ∷ 5 ∷ 6 ∷ 7 ∷ 8 ∷ []) ≡ false ∷ false ∷ false ∷ false ∷ false ∷ []
unfolding fit_at power_length window_index
fit-never = refl

-- the least parameters that a target may have, and the greatest
IsPower-least : IsPower 1 0 1 1
IsPower-least = record {
  power_low = lit≤ tt;
  power_high = lit≤ tt;
  widening_high = lit≤ tt;
  repeat_low = lit≤ tt;
  repeat_high = lit≤ tt;
  scale_low = lit≤ tt;
  scale_high = lit≤ tt;
}

IsPower-greatest : IsPower 4 3 65536 65536
IsPower-greatest = record {
  power_low = lit≤ tt;
  power_high = lit≤ tt;
  widening_high = lit≤ tt;
  repeat_low = lit≤ tt;
  repeat_high = lit≤ tt;
  scale_low = lit≤ tt;
  scale_high = lit≤ tt;
}

-- and none of them is less or greater
IsPower-power_0 : IsPower 0 0 1 1 → ⊥
IsPower-power_0 is = omega (arith, is.power_low)

IsPower-power_5 : IsPower 5 0 1 1 → ⊥
IsPower-power_5 is = omega (arith, is.power_high)

IsPower-widening_4 : IsPower 1 4 1 1 → ⊥
IsPower-widening_4 is = omega (arith, is.widening_high)

IsPower-repeat_0 : IsPower 1 0 0 1 → ⊥
IsPower-repeat_0 is = omega (arith, is.repeat_low)

IsPower-repeat_65537 : IsPower 1 0 65537 1 → ⊥
IsPower-repeat_65537 is = omega (arith, is.repeat_high)

IsPower-scale_0 : IsPower 1 0 1 0 → ⊥
IsPower-scale_0 is = omega (arith, is.scale_low)

IsPower-scale_65537 : IsPower 1 0 1 65537 → ⊥
IsPower-scale_65537 is = omega (arith, is.scale_high)
