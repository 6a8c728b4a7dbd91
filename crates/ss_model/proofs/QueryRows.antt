-- Worked rows of queries, each computed from the whole list of values.
use Rattle.ss_model.proofs.Common.{ℤ, refl, exp_length, Sure, is_free, Landmark, Point, New, interval_of_count, interval_of_sum, interval_of_least}
use Rattle.ss_model.proofs.Common.{interval_of_greatest, split_windows, marked_values, true_count, true_sum, without_step, windows, Window}
use Rattle.std.specs.Prelude.{◌≡◌, ℕ, Bool, true, pos, negsuc, List, [], ◌∷◌, map, Some}
use Rattle.ss_targets.specs.Windowing.{window_index}
use Rattle.ss_bounds.specs.declared.extreme.Extreme.{Extreme}
use Rattle.ss_bounds.specs.declared.extreme.Extreme.TheVariants.{Nothing, Maybe}
use Rattle.ss_bounds.specs.Split.{sum_interval}

-- all times are free, and no landmark stands
abbrev free : ℕ → Bool
free t = true

-- seven values, whose windows under `exp 2 1 1` are those of positions 1 to 4, 5 to 6, and 7
abbrev seven : List Point
seven = (10, pos 5, New) ∷ (20, negsuc 2, New) ∷ (30, pos 8, New) ∷ (40, pos 1, New) ∷ (50, pos 9, New) ∷ (60, pos 2, New) ∷ (70, pos 7, New) ∷ []

abbrev count_in : ℕ × ℕ → ℕ × ℕ
count_in range = interval_of_count free range.0 range.1 (windows (without_step (exp_length 2 1 1)) seven) []

abbrev sum_in : ℕ × ℕ → ℤ × ℤ
sum_in range = interval_of_sum free range.0 range.1 (windows (without_step (exp_length 2 1 1)) seven) []

abbrev least_in : ℕ × ℕ → Extreme
least_in range = interval_of_least free range.0 range.1 (windows (without_step (exp_length 2 1 1)) seven) []

abbrev greatest_in : ℕ × ℕ → Extreme
greatest_in range = interval_of_greatest free range.0 range.1 (windows (without_step (exp_length 2 1 1)) seven) []

counts-seven : map count_in ((10, 40) ∷ (10, 25) ∷ (15, 25) ∷ (25, 55) ∷ []) ≡ (4, 4) ∷ (1, 3) ∷ (0, 2) ∷ (2, 4) ∷ []
unfolding window_index
counts-seven = refl

sums-seven : map sum_in ((0, 100) ∷ (10, 25) ∷ (25, 55) ∷ []) ≡ (pos 29, pos 29) ∷ (negsuc 4, pos 16) ∷ (negsuc 2, pos 25) ∷ []
unfolding window_index sum_interval
sums-seven = refl

least-seven : map least_in ((71, 80) ∷ (10, 25) ∷ (15, 25) ∷ (25, 55) ∷ [])
    ≡ Nothing ∷ Sure (negsuc 2) (pos 8) ∷ Maybe (negsuc 2) (pos 8) ∷ Sure (negsuc 2) (pos 8) ∷ []
unfolding window_index
least-seven = refl

greatest-seven : map greatest_in ((45, 65) ∷ (25, 55) ∷ []) ≡ Sure (pos 9) (pos 9) ∷ Sure (pos 2) (pos 9) ∷ []
unfolding window_index
greatest-seven = refl

-- the truth from 10 to 25 is 2 values of the sum 2, and from 25 to 55 3 of the sum 18
truth-counts : map (λ (range : ℕ × ℕ). true_count range.0 range.1 seven []) ((10, 25) ∷ (25, 55) ∷ []) ≡ 2 ∷ 3 ∷ []
truth-counts = refl

truth-sums : map (λ (range : ℕ × ℕ). true_sum range.0 range.1 seven []) ((10, 25) ∷ (25, 55) ∷ []) ≡ pos 2 ∷ pos 18 ∷ []
truth-sums = refl

-- four values at four times in one window of four: the free times are used up
crowded : interval_of_count free 10 11 (windows (without_step (λ i. 4)) ((10, pos 4, New) ∷ (11, pos 4, New) ∷ (12, pos 6, New) ∷ (13, pos 6, New) ∷ [])) []
    ≡ (2, 2)
unfolding window_index
crowded = refl

crowded-sum : interval_of_sum free 10 11 (windows (without_step (λ i. 4)) ((10, pos 4, New) ∷ (11, pos 4, New) ∷ (12, pos 6, New) ∷ (13, pos 6, New) ∷ [])) []
    ≡ (pos 8, pos 12)
unfolding window_index sum_interval
crowded-sum = refl

-- one value in a landmark at 100, and one after it
abbrev single : List Landmark
single = record { start = 100; finish = Some 100; values = record { t = 100; v = pos 7 } ∷ [] } ∷ []

marked_before : map (λ (range : ℕ × ℕ). interval_of_sum (is_free single) range.0 range.1 (windows (without_step (exp_length 2 1 1)) ((101, pos 8, New) ∷ []))
    (marked_values single))
    ((100, 100) ∷ (101, 101) ∷ (0, 200) ∷ []) ≡ (pos 7, pos 7) ∷ (pos 8, pos 8) ∷ (pos 15, pos 15) ∷ []
unfolding window_index sum_interval
marked_before = refl

-- a window that spans a landmark from 20 to 40 with two values
abbrev spanning : List Landmark
spanning = record { start = 20; finish = Some 40; values = record { t = 20; v = pos 100 } ∷ record { t = 30; v = pos 200 } ∷ [] } ∷ []

abbrev spanned : {A : Type 0} → ((ℕ → Bool) → ℕ → ℕ → List Window → List Point → A) → A
spanned answer = answer (is_free spanning) 20 40 (windows (without_step (λ i. 2)) ((10, pos 1, New) ∷ (50, pos 3, New) ∷ [])) (marked_values spanning)

-- of the times between its ends, the 18 outside the landmark are free
spanned-split : spanned (λ free from to ws marked. split_windows free from to ws)
    ≡ record { count = 2; sum = pos 4; min = pos 1; max = pos 3; ends = 0; inside = 0; outside = 18 } ∷ []
unfolding window_index
spanned-split = refl

spanned-count : spanned interval_of_count ≡ (2, 2)
unfolding window_index
spanned-count = refl

spanned-sum : spanned interval_of_sum ≡ (pos 300, pos 300)
unfolding window_index sum_interval
spanned-sum = refl

spanned-least : spanned interval_of_least ≡ Sure (pos 100) (pos 100)
unfolding window_index
spanned-least = refl

-- two values at both ends of 64 bits
edges : map (λ (v : ℤ). interval_of_sum free 10 15 (windows (without_step (λ i. 2)) ((10, v, New) ∷ (20, pos 9223372036854775807, New) ∷ [])) [])
    (pos 9223372036854775807 ∷ negsuc 9223372036854775807 ∷ [])
    ≡ (pos 9223372036854775807, pos 9223372036854775807) ∷ (negsuc 9223372036854775807, pos 9223372036854775807) ∷ []
unfolding window_index sum_interval
edges = refl

edges-whole : map (λ (v : ℤ). interval_of_sum free 0 30 (windows (without_step (λ i. 2)) ((10, v, New) ∷ (20, pos 9223372036854775807, New) ∷ [])) [])
    (pos 9223372036854775807 ∷ negsuc 9223372036854775807 ∷ [])
    ≡ (pos 18446744073709551614, pos 18446744073709551614) ∷ (negsuc 0, negsuc 0) ∷ []
unfolding window_index sum_interval
edges-whole = refl
