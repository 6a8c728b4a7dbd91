-- Worked rows, each computed.
use Rattle.std.proofs.Common.{◌≡◌, ℕ, ◌-◌, Bool, true, false, List, [], ◌∷◌, map, refl, arith}
use Rattle.ss_targets.specs.Exp.{exp_length}
use Rattle.ss_targets.specs.Windowing.{cut, fits, window_index, NeverFall}
use Rattle.ss_targets.specs.declared.exp.TheConstants.{LEAST_BASE, GREATEST_BASE, MOST_REPEAT, GREATEST_SCALE}

bases : LEAST_BASE ∷ GREATEST_BASE ∷ [] ≡ 2 ∷ 16 ∷ []
bases = refl

repeats_and_scales : MOST_REPEAT ∷ GREATEST_SCALE ∷ [] ≡ 65536 ∷ 65536 ∷ []
repeats_and_scales = refl

lengths-doubling : map (exp_length 2 1 1) (0 ∷ 1 ∷ 2 ∷ 3 ∷ 4 ∷ []) ≡ 1 ∷ 2 ∷ 4 ∷ 8 ∷ 16 ∷ []
lengths-doubling = refl

starts-doubling : map (cut (exp_length 2 1 1)) (0 ∷ 1 ∷ 2 ∷ 3 ∷ 4 ∷ 5 ∷ []) ≡ 0 ∷ 1 ∷ 3 ∷ 7 ∷ 15 ∷ 31 ∷ []
starts-doubling = refl

lengths-tripling_pairs : map (exp_length 3 2 1) (0 ∷ 1 ∷ 2 ∷ 3 ∷ 4 ∷ []) ≡ 1 ∷ 1 ∷ 3 ∷ 3 ∷ 9 ∷ []
lengths-tripling_pairs = refl

starts-tripling_pairs : map (cut (exp_length 3 2 1)) (0 ∷ 1 ∷ 2 ∷ 3 ∷ 4 ∷ 5 ∷ []) ≡ 0 ∷ 1 ∷ 2 ∷ 5 ∷ 8 ∷ 17 ∷ []
starts-tripling_pairs = refl

-- whether the positions l to r lie in one window of the doubling target, at each of some counts
fit_at : ℕ → ℕ → List ℕ → List Bool
fit_at l r = map (fits (exp_length 2 1 1) l r)

fit-1-2 : fit_at 1 2 (2 ∷ 3 ∷ 4 ∷ 5 ∷ []) ≡ false ∷ true ∷ false ∷ true ∷ []
unfolding fit_at window_index
fit-1-2 = refl

fit-1-4 : fit_at 1 4 (5 ∷ 6 ∷ 7 ∷ []) ≡ false ∷ false ∷ true ∷ []
unfolding fit_at window_index
fit-1-4 = refl

fit-3-5 : fit_at 3 5 (5 ∷ 6 ∷ 7 ∷ 8 ∷ []) ≡ false ∷ false ∷ false ∷ true ∷ []
unfolding fit_at window_index
fit-3-5 = refl

fit-5-6 : fit_at 5 6 (6 ∷ 7 ∷ []) ≡ false ∷ true ∷ []
unfolding fit_at window_index
fit-5-6 = refl

-- lengths that stay the same never fall, and those that shrink do
NeverFall-same : NeverFall (λ i. 3)
NeverFall-same i = omega arith

NeverFall-shrinking : NeverFall (λ i. 3 - i) → ⊥
NeverFall-shrinking never = omega (arith, never 0)
