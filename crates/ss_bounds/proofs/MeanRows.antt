-- Worked rows of means, each computed.
use Rattle.std.specs.Prelude.{◌≡◌, ◌^◌, ℕ, ℤ, pos, negsuc, true, false, [], ◌∷◌, List, map}
use Rattle.std.proofs.Common.{refl}
use Rattle.ss_bounds.specs.declared.fraction.Fraction.{Fraction}
use Rattle.ss_bounds.specs.declared.mean.Mean.{Mean}
use Rattle.ss_bounds.specs.declared.mean.Mean.TheVariants.{Nothing, Sure, Maybe}
use Rattle.ss_bounds.specs.Fractions.{at_most, at_least, lowest}
use Rattle.ss_bounds.specs.Means.{mean_interval}
use Rattle.ss_bounds.specs.Split.{SplitFigures}

abbrev pub fraction : ℤ → ℕ → Fraction
fraction over under = record { over = over; under = under }

-- what is known of the mean, from a sum and a count and from split windows
abbrev mean_at : ℤ → ℕ → List SplitFigures → Mean
mean_at over under splits = mean_interval (fraction over under) splits

-- it is one number
abbrev one : ℤ → ℕ → Mean
one over under = Sure (fraction over under) (fraction over under)

-- the values 5, -3, 8 and 1 at the times 10, 20, 30 and 40, and 9 and 2 at 50 and 60
abbrev pub four : ℕ → ℕ → ℕ → SplitFigures
four ends inside outside = record {
  count = 4;
  sum = pos 11;
  min = negsuc 2;
  max = pos 8;
  ends = ends;
  inside = inside;
  outside = outside;
}

abbrev pub two : SplitFigures
two = record { count = 2; sum = pos 11; min = pos 2; max = pos 9; ends = 1; inside = 5; outside = 4 }

-- the values -4 and -1 at 10 and 14, and 0, 0 and 6 at 1, 5 and 9, where a landmark covers 2 to 4
abbrev pub pair : ℕ → SplitFigures
pair ends = record { count = 2; sum = negsuc 4; min = negsuc 3; max = negsuc 0; ends = ends; inside = 3; outside = 0 }

abbrev pub three : ℕ → ℕ → ℕ → SplitFigures
three ends inside outside = record {
  count = 3;
  sum = pos 6;
  min = pos 0;
  max = pos 6;
  ends = ends;
  inside = inside;
  outside = outside;
}

-- four values of which one to three may lie in the range, and three of which one or two may
abbrev some_of : ℤ → ℤ → ℤ → SplitFigures
some_of sum min max = record { count = 4; sum = sum; min = min; max = max; ends = 1; inside = 27; outside = 2 }

abbrev few_of : ℤ → ℤ → ℤ → SplitFigures
few_of sum min max = record { count = 3; sum = sum; min = min; max = max; ends = 1; inside = 18; outside = 1 }

-- from 10 to 25, and from 15 to 34, where no value may lie: then the ends are those of any value
means-four : mean_at (pos 0) 0 (four 1 15 14 ∷ []) ∷ mean_at (pos 0) 0 (four 0 19 10 ∷ []) ∷ []
    ≡ Sure (fraction (negsuc 2) 1) (fraction (pos 8) 1) ∷ Maybe (fraction (negsuc 2) 1) (fraction (pos 8) 1) ∷ []
unfolding mean_interval lowest
means-four = refl

-- from 25 to 55 both windows are split, and from 45 to 55 the second one alone; the sum over the count would end at 25/2
means-both : mean_at (pos 0) 0 (four 1 15 14 ∷ two ∷ []) ∷ mean_at (pos 0) 0 (two ∷ []) ∷ []
    ≡ Sure (fraction (negsuc 0) 1) (fraction (pos 17) 2) ∷ Sure (fraction (pos 2) 1) (fraction (pos 9) 1) ∷ []
unfolding mean_interval lowest
means-both = refl

-- what is known is one number; without a value there is none
means-known : mean_at (pos 29) 7 [] ∷ mean_at (pos 0) 0 [] ∷ []
    ≡ one (pos 29) 7 ∷ Nothing ∷ []
unfolding mean_interval lowest
means-known = refl

-- two values have none between them
means-pair : mean_at (pos 0) 0 (pair 0 ∷ []) ∷ mean_at (pos 0) 0 (pair 1 ∷ []) ∷ []
    ≡ Nothing ∷ Sure (fraction (negsuc 3) 1) (fraction (negsuc 0) 1) ∷ []
unfolding mean_interval lowest
means-pair = refl

-- three values, the second at a time from 5 to 8: from 3 to 4, from 5 to 6 and from 5 to 8
means-three : mean_at (pos 0) 0 (three 0 0 4 ∷ []) ∷ mean_at (pos 0) 0 (three 0 2 2 ∷ []) ∷ mean_at (pos 0) 0 (three 0 4 0 ∷ []) ∷ []
    ≡ Nothing ∷ Maybe (fraction (pos 0) 1) (fraction (pos 6) 1) ∷ Sure (fraction (pos 0) 1) (fraction (pos 6) 1) ∷ []
unfolding mean_interval lowest
means-three = refl

-- beside a landmark's value 7: from 2 to 6, from 2 to 8 and from 0 to 6
means-three_beside : mean_at (pos 7) 1 (three 0 2 2 ∷ []) ∷ mean_at (pos 7) 1 (three 0 4 0 ∷ []) ∷ mean_at (pos 7) 1 (three 1 2 2 ∷ []) ∷ []
    ≡ Sure (fraction (pos 7) 2) (fraction (pos 7) 1) ∷ Sure (fraction (pos 7) 2) (fraction (pos 13) 2) ∷ Sure (fraction (pos 7) 3) (fraction (pos 13) 2) ∷ []
unfolding mean_interval lowest
means-three_beside = refl

-- in lowest terms, also below 0 and at the ends of 64 bits
means-lowest : mean_at (pos 9223372036854775806) 3 [] ∷ mean_at (negsuc 0) 2 [] ∷ mean_at (negsuc 0) 3 [] ∷ []
    ≡ one (pos 3074457345618258602) 1 ∷ one (negsuc 0) 2 ∷ one (negsuc 0) 3 ∷ []
unfolding mean_interval lowest
means-lowest = refl

means-lowest_more : mean_at (pos 0) 1 [] ∷ mean_at (negsuc 3) 2 [] ∷ mean_at (negsuc 3) 3 [] ∷ []
    ≡ one (pos 0) 1 ∷ one (negsuc 1) 1 ∷ one (negsuc 3) 3 ∷ []
unfolding mean_interval lowest
means-lowest_more = refl

means-wide : mean_at (pos 9223372036854775807) 1 [] ∷ mean_at (negsuc 9223372036854775807) 1 [] ∷ mean_at (negsuc 9223372036854775811) 4 [] ∷ []
    ≡ one (pos 9223372036854775807) 1 ∷ one (negsuc 9223372036854775807) 1 ∷ one (negsuc 2305843009213693952) 1 ∷ []
unfolding mean_interval lowest
means-wide = refl

means-wide_more : mean_at (pos 9223372036854775802) 6 [] ≡ one (pos 4611686018427387901) 3
unfolding mean_interval lowest
means-wide_more = refl

-- one to three of four values beside a known one: the end lies just after the crossing,
means-after : mean_at (pos 0) 1 (some_of (pos 7) (pos 1) (pos 3) ∷ []) ≡ Sure (fraction (pos 1) 2) (fraction (pos 5) 3)
unfolding mean_interval lowest
means-after = refl

-- before it,
means-before : mean_at (pos 0) 1 (some_of (pos 2) (pos 0) (pos 1) ∷ []) ≡ Sure (fraction (pos 0) 1) (fraction (pos 2) 3)
unfolding mean_interval lowest
means-before = refl

-- at the most values,
means-most : mean_at (negsuc 4) 1 (some_of (pos 5) (pos 1) (pos 2) ∷ []) ≡ Sure (fraction (negsuc 1) 1) (fraction (negsuc 0) 4)
unfolding mean_interval lowest
means-most = refl

-- at the fewest,
means-fewest : mean_at (pos 9) 1 (some_of (pos 1) (pos 0) (pos 1) ∷ []) ≡ Sure (fraction (pos 9) 4) (fraction (pos 5) 1)
unfolding mean_interval lowest
means-fewest = refl

-- and the least just after
means-low : mean_at (pos 3) 1 (some_of (pos 5) (pos 0) (pos 2) ∷ []) ≡ Sure (fraction (pos 4) 3) (fraction (pos 5) 2)
unfolding mean_interval lowest
means-low = refl

-- of two windows what is taken of one hangs on the other: 5/3 is 1 of one value and 4 of two
means-pairs : mean_at (pos 0) 0 (few_of (pos 2) (pos 0) (pos 1) ∷ few_of (pos 4) (pos 0) (pos 2) ∷ [])
    ∷ mean_at (pos 0) 0 (few_of (pos 2) (pos 0) (pos 1) ∷ []) ∷ mean_at (pos 0) 0 (few_of (pos 4) (pos 0) (pos 2) ∷ []) ∷ []
    ≡ Sure (fraction (pos 0) 1) (fraction (pos 5) 3) ∷ Sure (fraction (pos 0) 1) (fraction (pos 1) 1) ∷ Sure (fraction (pos 0) 1) (fraction (pos 2) 1) ∷ []
unfolding mean_interval lowest
means-pairs = refl

-- equal values, and a window of which none need lie there beside one of which some do
means-equal : mean_at (pos 0) 0 (some_of (pos 20) (pos 5) (pos 5) ∷ []) ∷ mean_at (pos 0) 0 (four 0 19 10 ∷ two ∷ []) ∷ []
    ≡ one (pos 5) 1 ∷ Sure (fraction (negsuc 0) 1) (fraction (pos 9) 1) ∷ []
unfolding mean_interval lowest
means-equal = refl

-- of two windows of which none need lie there, as no stream has them, the best value of either
means-apart : mean_at (pos 0) 0 (four 0 19 10 ∷ three 0 2 2 ∷ []) ≡ Maybe (fraction (negsuc 2) 1) (fraction (pos 8) 1)
unfolding mean_interval lowest
means-apart = refl

-- which of two fractions is the greater one, also where their parts are great
orders : map (λ f. f (fraction (pos 1) 3) (fraction (pos 2) 6)) (at_most ∷ at_least ∷ []) ≡ true ∷ true ∷ []
orders = refl

orders-apart : map (λ f. f (fraction (negsuc 0) 3) (fraction (negsuc 0) 4)) (at_most ∷ at_least ∷ []) ≡ true ∷ false ∷ []
orders-apart = refl

-- 2^32 + 1 values with the sum 2^95 are above 2^32 with the sum 0
orders-wide : map (λ f. f (fraction (pos (2 ^ 95)) 4294967297) (fraction (pos 0) 4294967296)) (at_most ∷ at_least ∷ []) ≡ false ∷ true ∷ []
orders-wide = refl
