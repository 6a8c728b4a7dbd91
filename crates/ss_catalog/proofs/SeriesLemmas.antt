-- Where the rows of a series lie in its range.
use Rattle.std.proofs.Common.{◌≡◌, ℕ, zero, suc, ◌+◌, ◌*◌, ◌/◌, ◌-◌, ◌<◌, ◌≤◌, length, Some, arith, inl, inr, refl, ap, ◌∙◌}
use Rattle.std.proofs.Math.Nat.{le-div_iff_mul-le}
use Rattle.std.proofs.lemmas.Bool.{cases_lt, le-ltb, lt-ltb}
use Rattle.std.specs.List.{slice_get}
use Rattle.ss_catalog.specs.Series.{numbers_from, row_count, rows_in, rows_of}
use Rattle.ss_catalog.specs.declared.series.Series.{Series}

-- so many steps from the start lie in the range
steps-within : (from to step row : ℕ) → 0 < step → row < (to - from) / step + 1 → from ≤ to → from + row * step ≤ to
steps-within from to step row some more order =
    let low : row ≤ (to - from) / step = omega arith in
    let steps = (le-div_iff_mul-le some).0 low in
    omega (arith, steps)

-- each row begins in the range
pub row-within : (from to step row : ℕ) → 0 < step → row < rows_in from to step → from + row * step ≤ to
row-within from to step row some more = elim (cases_lt to from) [
  | inl before ↦ (let none = rw (lt-ltb to from before) at more in omega (arith, none))
  | inr order ↦ steps-within from to step row some (rw (le-ltb to from order) at more) order
]

length-numbers_from : (first n : ℕ) → length (numbers_from first n) ≡ n
unfolding numbers_from
length-numbers_from first zero = refl
length-numbers_from first (suc n) = ap suc (length-numbers_from (first + 1) n)

slice_get-numbers_from : (first n i : ℕ) → i < n → slice_get (numbers_from first n) i ≡ Some (first + i)
unfolding numbers_from
slice_get-numbers_from first zero i inside = absurd (omega arith)
slice_get-numbers_from first (suc n) zero inside = ap (λ k. Some k) (omega arith)
slice_get-numbers_from first (suc n) (suc i) inside =
    slice_get-numbers_from (first + 1) n i (omega arith) ∙ ap (λ k. Some k) (omega arith)

-- each row of a series is its own number
pub slice_get-rows_of : (series : Series) (row : ℕ) → row < row_count series → slice_get (rows_of series) row ≡ Some row
slice_get-rows_of series row inside = slice_get-numbers_from 0 (row_count series) row inside ∙ ap (λ k. Some k) (omega arith)

pub length-rows_of : (series : Series) → length (rows_of series) ≡ row_count series
length-rows_of series = length-numbers_from 0 (row_count series)
