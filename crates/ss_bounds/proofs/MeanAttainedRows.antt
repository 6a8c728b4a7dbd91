-- Worked rows of how many values attain an end of a mean, each computed.
use Rattle.std.specs.Prelude.{◌≡◌, ℤ, pos, negsuc, [], ◌∷◌}
use Rattle.std.proofs.Common.{refl}
use Rattle.ss_bounds.specs.declared.fraction.Fraction.{Fraction}
use Rattle.ss_bounds.specs.MeanAttained.{greatest_mean_at, least_mean_at}
use Rattle.ss_bounds.specs.Split.{SplitFigures}
use Rattle.ss_bounds.proofs.MeanRows.{four, fraction, two}

abbrev nothing : Fraction
nothing = fraction (pos 0) 0

-- four values of which one to three may lie in the range, and three of which one or two may
abbrev some_of : ℤ → ℤ → ℤ → SplitFigures
some_of sum min max = record { count = 4; sum = sum; min = min; max = max; ends = 1; inside = 27; outside = 2 }

abbrev few_of : ℤ → ℤ → ℤ → SplitFigures
few_of sum min max = record { count = 3; sum = sum; min = min; max = max; ends = 1; inside = 18; outside = 1 }

-- the greatest mean from 25 to 55 has 8 of the first window and 9 of the second, and the least one -3, -2 and 2
both-greatest : greatest_mean_at nothing (four 1 15 14) (two ∷ []) ∷ greatest_mean_at (fraction (pos 8) 1) two [] ∷ [] ≡ 1 ∷ 1 ∷ []
unfolding greatest_mean_at
both-greatest = refl

both-least : least_mean_at nothing (four 1 15 14) (two ∷ []) ∷ least_mean_at (fraction (negsuc 4) 2) two [] ∷ [] ≡ 2 ∷ 1 ∷ []
unfolding least_mean_at
both-least = refl

-- where nothing is known and none need lie there, one value has the greatest mean: none has no mean
first-some : greatest_mean_at nothing (four 0 19 10) [] ∷ least_mean_at nothing (four 0 19 10) [] ∷ [] ≡ 1 ∷ 1 ∷ []
unfolding greatest_mean_at least_mean_at
first-some = refl

-- without a value there is no mean, and so it is attained by none
without : least_mean_at nothing (record { count = 2; sum = negsuc 4; min = negsuc 3; max = negsuc 0; ends = 0; inside = 3; outside = 0 }) [] ≡ 0
unfolding least_mean_at
without = refl

-- equal values have their mean in any number, so the least one counts
equal : greatest_mean_at nothing (some_of (pos 20) (pos 5) (pos 5)) [] ∷ least_mean_at nothing (some_of (pos 20) (pos 5) (pos 5)) [] ∷ [] ≡ 1 ∷ 1 ∷ []
unfolding greatest_mean_at least_mean_at
equal = refl

-- just after the crossing, just before it, the most and the fewest
turns : greatest_mean_at (fraction (pos 0) 1) (some_of (pos 7) (pos 1) (pos 3)) [] ∷ greatest_mean_at (fraction (pos 0) 1) (some_of (pos 2) (pos 0) (pos 1)) []
    ∷ greatest_mean_at (fraction (negsuc 4) 1) (some_of (pos 5) (pos 1) (pos 2)) [] ∷ greatest_mean_at (fraction (pos 9) 1) (some_of (pos 1) (pos 0) (pos 1)) []
    ∷ least_mean_at (fraction (pos 3) 1) (some_of (pos 5) (pos 0) (pos 2)) [] ∷ [] ≡ 2 ∷ 2 ∷ 3 ∷ 1 ∷ 2 ∷ []
unfolding greatest_mean_at least_mean_at
turns = refl

-- of two windows 5/3 is 1 of one value and 4 of two, though each has its own greatest mean with one value
pairs : greatest_mean_at nothing (few_of (pos 2) (pos 0) (pos 1)) (few_of (pos 4) (pos 0) (pos 2) ∷ [])
    ∷ greatest_mean_at (fraction (pos 1) 1) (few_of (pos 4) (pos 0) (pos 2)) []
    ∷ greatest_mean_at nothing (few_of (pos 2) (pos 0) (pos 1)) [] ∷ greatest_mean_at nothing (few_of (pos 4) (pos 0) (pos 2)) [] ∷ [] ≡ 1 ∷ 2 ∷ 1 ∷ 1 ∷ []
unfolding greatest_mean_at
pairs = refl
