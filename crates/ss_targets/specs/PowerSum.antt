-- Power sums.
use Rattle.std.specs.Prelude.{ℕ, zero, suc, ◌+◌, ◌^◌, [], ◌∷◌, slice_index}

-- the sum of j ^ e for j from 1 to n
abbrev pub power_sum : ℕ → ℕ → ℕ
power_sum e zero = 0
power_sum e (suc n) = power_sum e n + (n + 1) ^ e

-- the greatest n whose sum is asked for, by the exponent
abbrev pub cap : ℕ → ℕ
cap e = slice_index (2 ^ 42 ∷ 2 ^ 22 ∷ 2 ^ 15 ∷ 2 ^ 12 ∷ 2 ^ 10 ∷ 2 ^ 8 ∷ 2 ^ 7 ∷ []) e
