-- Worked rows, each computed.
use Rattle.std.specs.Prelude.{◌≡◌, ℕ, true, not, ℤ, pos, negsuc, [], ◌∷◌, map, None, Some}
use Rattle.std.proofs.Common.{arith, inl, inr, lit≤, refl}
use Rattle.std.proofs.lemmas.Int.{ints}
use Rattle.ss_summary.specs.Points.{New}
use Rattle.ss_bounds.specs.declared.extreme.Extreme.TheVariants.{Nothing, Sure, Maybe}
use Rattle.ss_bounds.specs.Split.{SplitFigures, count_interval, low_sum, high_sum, sum_interval}
use Rattle.ss_bounds.specs.Attained.{first_at, least_sum_at, greatest_sum_at, IsFirstLeast, IsFirstGreatest}
use Rattle.ss_bounds.specs.Parted.{CanMake, CanHoldLeast, CanHoldGreatest, CanBeParted}
use Rattle.ss_bounds.specs.Times.{lies_in, split_of}
use Rattle.ss_bounds.specs.Truth.{asked, HoldsExtreme, RiseFree, AreSplit}
use Rattle.ss_bounds.specs.Extremes.{min_interval, max_interval}

-- the least and the greatest sum of x values
abbrev sums : SplitFigures → ℕ → ℤ × ℤ
sums s x = (low_sum s x, high_sum s x)

-- the values 5, -3, 8 and 1 at the times 10, 20, 30 and 40, without landmarks
abbrev four : ℕ → ℕ → ℕ → SplitFigures
four ends inside outside = record {
  count = 4;
  sum = pos 11;
  min = negsuc 2;
  max = pos 8;
  ends = ends;
  inside = inside;
  outside = outside;
}

-- all its times are free
abbrev four_in : ℕ → ℕ → SplitFigures
four_in from to = split_of (λ t. true) from to 4 (pos 11) (negsuc 2) (pos 8) 10 40

-- from 10 to 25, from 25 to 55 and from 15 to 25
figures-four : four_in 10 25 ∷ four_in 25 55 ∷ four_in 15 25 ∷ [] ≡ four 1 15 14 ∷ four 1 15 14 ∷ four 0 11 18 ∷ []
figures-four = refl

RiseFree-four : RiseFree (λ t. true) (negsuc 2) (pos 8) 0 ((10, pos 5, New) ∷ (20, negsuc 2, New) ∷ (30, pos 8, New) ∷ (40, pos 1, New) ∷ [])
RiseFree-four = (
  lit≤ tt,
  refl,
  omega (arith, ints),
  omega (arith, ints),
  (
    lit≤ tt,
    refl,
    omega (arith, ints),
    omega (arith, ints),
    (
      lit≤ tt,
      refl,
      omega (arith, ints),
      omega (arith, ints),
      (lit≤ tt, refl, omega (arith, ints), omega (arith, ints), tt),
    ),
  ),
)

-- its values are as the figures say, and those at 10 and 20 are the ones that are asked for from 10 to 25
AreSplit-four : AreSplit (λ t. true) 10 25 (10, pos 5, New) ((20, negsuc 2, New) ∷ (30, pos 8, New) ∷ (40, pos 1, New) ∷ []) (four 1 15 14)
AreSplit-four = record { more = lit≤ tt; rising = RiseFree-four; is = refl }

asked-four : asked 10 25 ((10, pos 5, New) ∷ (20, negsuc 2, New) ∷ (30, pos 8, New) ∷ (40, pos 1, New) ∷ []) ≡ pos 5 ∷ negsuc 2 ∷ []
asked-four = refl

count-four : count_interval (four 1 15 14) ≡ (1, 3)
count-four = refl

sums-four : map (sums (four 1 15 14)) (1 ∷ 2 ∷ 3 ∷ []) ≡ (negsuc 2, pos 8) ∷ (negsuc 4, pos 16) ∷ (pos 3, pos 14) ∷ []
sums-four = refl

-- the least sum, -5, is that of two values, neither the fewest nor the most
sum-four : sum_interval (four 1 15 14) ≡ (negsuc 4, pos 16)
unfolding sum_interval
sum-four = refl

min-four : min_interval None (four 1 15 14 ∷ []) ≡ Sure (negsuc 2) (pos 8)
min-four = refl

-- from 15 to 25
count-four_no_end : count_interval (four 0 11 18) ≡ (0, 2)
count-four_no_end = refl

sums-four_no_end : map (sums (four 0 11 18)) (0 ∷ 1 ∷ 2 ∷ []) ≡ (pos 0, pos 0) ∷ (negsuc 2, pos 8) ∷ (negsuc 4, pos 16) ∷ []
sums-four_no_end = refl

sum-four_no_end : sum_interval (four 0 11 18) ≡ (negsuc 4, pos 16)
unfolding sum_interval
sum-four_no_end = refl

min-four_no_end : min_interval None (four 0 11 18 ∷ []) ≡ Maybe (negsuc 2) (pos 8)
min-four_no_end = refl

-- the values 9 and 2 at the times 50 and 60, from 25 to 55
abbrev two : SplitFigures
two = record { count = 2; sum = pos 11; min = pos 2; max = pos 9; ends = 1; inside = 5; outside = 4 }

figures-two : split_of (λ t. true) 25 55 2 (pos 11) (pos 2) (pos 9) 50 60 ≡ two
figures-two = refl

count-two : count_interval two ≡ (1, 1)
count-two = refl

sum-two : sum_interval two ≡ (pos 2, pos 9)
unfolding sum_interval
sum-two = refl

-- both windows, from 25 to 55
min-both : min_interval None (four 1 15 14 ∷ two ∷ []) ≡ Sure (negsuc 2) (pos 8)
min-both = refl

max-both : max_interval None (four 1 15 14 ∷ two ∷ []) ≡ Sure (pos 2) (pos 9)
max-both = refl

-- four values from 4 to 6 at the times 10 to 13, from 10 to 11: there is no further time
abbrev crowded : SplitFigures
crowded = record { count = 4; sum = pos 20; min = pos 4; max = pos 6; ends = 1; inside = 1; outside = 1 }

figures-crowded : split_of (λ t. true) 10 11 4 (pos 20) (pos 4) (pos 6) 10 13 ≡ crowded
figures-crowded = refl

count-crowded : count_interval crowded ≡ (2, 2)
count-crowded = refl

sum-crowded : sum_interval crowded ≡ (pos 8, pos 12)
unfolding sum_interval
sum-crowded = refl

-- the values 1 and 3 at the times 10 and 50, with a landmark from 20 to 40, from 20 to 40
abbrev landmark : SplitFigures
landmark = record { count = 2; sum = pos 4; min = pos 1; max = pos 3; ends = 0; inside = 0; outside = 18 }

figures-landmark : split_of (λ t. not (lies_in 20 40 t)) 20 40 2 (pos 4) (pos 1) (pos 3) 10 50 ≡ landmark
figures-landmark = refl

count-landmark : count_interval landmark ≡ (0, 0)
count-landmark = refl

sum-landmark : sum_interval landmark ≡ (pos 0, pos 0)
unfolding sum_interval
sum-landmark = refl

-- a landmark's value 100 is the least in the range, as the window can't hold any
min-landmark : min_interval (Some (pos 100)) (landmark ∷ []) ≡ Sure (pos 100) (pos 100)
min-landmark = refl

-- and without it there is none
min-nothing : min_interval None (landmark ∷ []) ≡ Nothing
min-nothing = refl

-- two values at the times 10 and 20, from 10 to 15: both the greatest of 64 bits, and the least and the greatest
abbrev extreme : ℤ → ℤ → SplitFigures
extreme sum min = record { count = 2; sum = sum; min = min; max = pos 9223372036854775807; ends = 1; inside = 5; outside = 4 }

sum-greatest : sum_interval (extreme (pos 18446744073709551614) (pos 9223372036854775807))
    ≡ (pos 9223372036854775807, pos 9223372036854775807)
unfolding sum_interval
sum-greatest = refl

sum-least_and_greatest : sum_interval (extreme (negsuc 0) (negsuc 9223372036854775807))
    ≡ (negsuc 9223372036854775807, pos 9223372036854775807)
unfolding sum_interval
sum-least_and_greatest = refl

-- what is known of a least or a greatest value doesn't hold of one just past either end, nor of none where one is sure
holds-maybe_above : HoldsExtreme (Maybe (pos 1) (pos 2)) (Some (pos 3)) → ⊥
holds-maybe_above holds = omega (arith, ints, holds.1)

holds-maybe_below : HoldsExtreme (Maybe (pos 1) (pos 2)) (Some (pos 0)) → ⊥
holds-maybe_below holds = omega (arith, ints, holds.0)

holds-sure_above : HoldsExtreme (Sure (pos 1) (pos 2)) (Some (pos 3)) → ⊥
holds-sure_above holds = omega (arith, ints, holds.1)

holds-sure_below : HoldsExtreme (Sure (pos 1) (pos 2)) (Some (pos 0)) → ⊥
holds-sure_below holds = omega (arith, ints, holds.0)

holds-sure_none : HoldsExtreme (Sure (pos 1) (pos 2)) None → ⊥
holds-sure_none holds = holds

holds-nothing : HoldsExtreme Nothing (Some (pos 1)) → ⊥
holds-nothing holds = holds

-- with times between them, but without a value to spare, a window of two values can't hold one there
abbrev ends_outside : SplitFigures
ends_outside = record { count = 2; sum = pos 11; min = pos 2; max = pos 9; ends = 0; inside = 5; outside = 4 }

min-ends_outside : min_interval None (ends_outside ∷ []) ≡ Nothing
min-ends_outside = refl

max-ends_outside : max_interval None (ends_outside ∷ []) ≡ Nothing
max-ends_outside = refl

-- a window that must hold a value in the range bounds the least value above one that is known, and the greatest below one
min-known_and_two : min_interval (Some (pos 100)) (two ∷ []) ≡ Sure (pos 2) (pos 9)
min-known_and_two = refl

max-known_and_two : max_interval (Some (pos 1)) (two ∷ []) ≡ Sure (pos 2) (pos 9)
max-known_and_two = refl

-- times may follow one another without a gap
RiseFree-crowded : RiseFree (λ t. true) (pos 4) (pos 6) 0 ((10, pos 4, New) ∷ (11, pos 6, New) ∷ [])
RiseFree-crowded = (
  lit≤ tt,
  refl,
  omega (arith, ints),
  omega (arith, ints),
  (lit≤ tt, refl, omega (arith, ints), omega (arith, ints), tt),
)

-- the least numbers of values with the least and with the greatest sum of all
abbrev ends_at : SplitFigures → ℕ × ℕ
ends_at s = (least_sum_at s, greatest_sum_at s)

ends_at-four : map ends_at (four 1 15 14 ∷ four 0 11 18 ∷ two ∷ crowded ∷ landmark ∷ []) ≡ (2, 2) ∷ (2, 2) ∷ (1, 1) ∷ (2, 2) ∷ (0, 0) ∷ []
unfolding sum_interval least_sum_at greatest_sum_at
ends_at-four = refl

-- four values, of which 1 to 3 may lie in the range
abbrev some_of : ℤ → ℤ → ℤ → SplitFigures
some_of sum min max = record { count = 4; sum = sum; min = min; max = max; ends = 1; inside = 9; outside = 9 }

-- from -3 to 9 the lines of the least sum cross at 2 where the sum is 12, just before with 13 and just after with 11
ends_at-whole : map ends_at (some_of (pos 11) (negsuc 2) (pos 9) ∷ some_of (pos 12) (negsuc 2) (pos 9) ∷ some_of (pos 13) (negsuc 2) (pos 9) ∷ [])
    ≡ (2, 2) ∷ (2, 2) ∷ (2, 2) ∷ []
unfolding sum_interval least_sum_at greatest_sum_at
ends_at-whole = refl

-- from -4 to 8 they cross between 1 and 2: with the sum 11 two values have the least sum alone, with 12 one value has it too,
-- and with 13 one alone
abbrev tie : ℤ → SplitFigures
tie sum = some_of sum (negsuc 3) (pos 8)

sums-tie : map (sums (tie (pos 12))) (1 ∷ 2 ∷ 3 ∷ []) ≡ (negsuc 3, pos 8) ∷ (negsuc 3, pos 16) ∷ (pos 4, pos 16) ∷ []
sums-tie = refl

ends_at-tie : map ends_at (tie (pos 11) ∷ tie (pos 12) ∷ tie (pos 13) ∷ []) ≡ (2, 2) ∷ (1, 2) ∷ (1, 3) ∷ []
unfolding sum_interval least_sum_at greatest_sum_at
ends_at-tie = refl

-- where no value is above 0 the least sum stays the same after the crossing point, and where none is below before it
ends_at-none_above : map ends_at (some_of (negsuc 3) (negsuc 2) (pos 0) ∷ some_of (negsuc 5) (negsuc 2) (pos 0) ∷ []) ≡ (2, 1) ∷ (2, 1) ∷ []
unfolding sum_interval least_sum_at greatest_sum_at
ends_at-none_above = refl

ends_at-none_below : map ends_at (some_of (pos 9) (pos 0) (pos 4) ∷ some_of (pos 8) (pos 0) (pos 4) ∷ []) ≡ (1, 3) ∷ (1, 2) ∷ []
unfolding sum_interval least_sum_at greatest_sum_at
ends_at-none_below = refl

-- equal values, above 0, at 0 and below it
ends_at-equal : map ends_at (some_of (pos 20) (pos 5) (pos 5) ∷ some_of (pos 0) (pos 0) (pos 0) ∷ some_of (negsuc 19) (negsuc 4) (negsuc 4) ∷ [])
    ≡ (1, 3) ∷ (1, 1) ∷ (3, 1) ∷ []
unfolding sum_interval least_sum_at greatest_sum_at
ends_at-equal = refl

-- ten values from -1 to 1 with the sum -4, whose least sums cross at 7 and whose greatest at 3, and with the sum 4, where it is
-- the other way round: 0 to 2 of them in the range, and 8 or 9
abbrev ten : ℤ → ℕ → ℕ → ℕ → SplitFigures
ten sum ends inside outside = record { count = 10; sum = sum; min = negsuc 0; max = pos 1; ends = ends; inside = inside; outside = outside }

ends_at-ten_few : map ends_at (ten (negsuc 3) 0 2 8 ∷ ten (pos 4) 0 2 8 ∷ []) ≡ (2, 2) ∷ (2, 2) ∷ []
unfolding sum_interval least_sum_at greatest_sum_at
ends_at-ten_few = refl

ends_at-ten_many : map ends_at (ten (negsuc 3) 1 8 1 ∷ ten (pos 4) 1 8 1 ∷ []) ≡ (8, 8) ∷ (8, 8) ∷ []
unfolding sum_interval least_sum_at greatest_sum_at
ends_at-ten_many = refl

ends_at-furthest : ends_at (extreme (negsuc 0) (negsuc 9223372036854775807)) ≡ (1, 1)
unfolding sum_interval least_sum_at greatest_sum_at
ends_at-furthest = refl

-- a value that a function doesn't have is sought up to the end
first_at-none : first_at pos (pos 9) 4 3 ≡ 7
first_at-none = refl

-- of two numbers that attain the least or the greatest sum the second isn't the first one, and one that doesn't attain it isn't
first-tie_least : IsFirstLeast (low_sum (tie (pos 12))) 1 3 2 → ⊥
first-tie_least is = omega (arith, ints, is.first 1 (lit≤ tt) (lit≤ tt))

first-not_least : IsFirstLeast (low_sum (tie (pos 11))) 1 3 1 → ⊥
first-not_least is = omega (arith, ints, is.at_most 2 (lit≤ tt) (lit≤ tt))

first-tie_greatest : IsFirstGreatest (high_sum (tie (pos 12))) 1 3 3 → ⊥
first-tie_greatest is = omega (arith, ints, is.first 2 (lit≤ tt) (lit≤ tt))

first-not_greatest : IsFirstGreatest (high_sum (tie (pos 11))) 1 3 1 → ⊥
first-not_greatest is = omega (arith, ints, is.at_least 2 (lit≤ tt) (lit≤ tt))

-- nor is one outside the range
first-below_least : IsFirstLeast (low_sum (tie (pos 12))) 2 3 1 → ⊥
first-below_least is = omega (arith, is.from)

first-above_least : IsFirstLeast (low_sum (tie (pos 11))) 0 1 2 → ⊥
first-above_least is = omega (arith, is.to)

first-below_greatest : IsFirstGreatest (high_sum (tie (pos 12))) 3 3 2 → ⊥
first-below_greatest is = omega (arith, is.from)

first-above_greatest : IsFirstGreatest (high_sum (tie (pos 12))) 0 1 2 → ⊥
first-above_greatest is = omega (arith, is.to)

-- two values from -3 to 8 can have any sum from -6 to 16
CanMake-lowest : CanMake (negsuc 2) (pos 8) 2 (negsuc 5)
CanMake-lowest = record { low = omega (arith, ints); high = omega (arith, ints) }

CanMake-highest : CanMake (negsuc 2) (pos 8) 2 (pos 16)
CanMake-highest = record { low = omega (arith, ints); high = omega (arith, ints) }

CanMake-below : CanMake (negsuc 2) (pos 8) 2 (negsuc 6) → ⊥
CanMake-below is = omega (arith, ints, is.low)

CanMake-above : CanMake (negsuc 2) (pos 8) 2 (pos 17) → ⊥
CanMake-above is = omega (arith, ints, is.high)

-- with -3 among them up to 5, and with 8 among them from 5 on; no values hold neither
CanHoldLeast-highest : CanHoldLeast (negsuc 2) (pos 8) 2 (pos 5)
CanHoldLeast-highest = record { some = lit≤ tt; high = omega (arith, ints) }

CanHoldLeast-above : CanHoldLeast (negsuc 2) (pos 8) 2 (pos 6) → ⊥
CanHoldLeast-above is = omega (arith, ints, is.high)

CanHoldLeast-one : CanHoldLeast (negsuc 2) (pos 8) 1 (negsuc 2)
CanHoldLeast-one = record { some = lit≤ tt; high = omega (arith, ints) }

CanHoldLeast-none : CanHoldLeast (negsuc 2) (pos 8) 0 (negsuc 2) → ⊥
CanHoldLeast-none is = omega (arith, is.some)

CanHoldGreatest-lowest : CanHoldGreatest (negsuc 2) (pos 8) 2 (pos 5)
CanHoldGreatest-lowest = record { some = lit≤ tt; low = omega (arith, ints) }

CanHoldGreatest-below : CanHoldGreatest (negsuc 2) (pos 8) 2 (pos 4) → ⊥
CanHoldGreatest-below is = omega (arith, ints, is.low)

CanHoldGreatest-one : CanHoldGreatest (negsuc 2) (pos 8) 1 (pos 8)
CanHoldGreatest-one = record { some = lit≤ tt; low = omega (arith, ints) }

CanHoldGreatest-none : CanHoldGreatest (negsuc 2) (pos 8) 0 (pos 8) → ⊥
CanHoldGreatest-none is = omega (arith, is.some)

-- of the four values above not all can be inside, one can't have the sum -4, and one outside can't have 9
CanBeParted-all : CanBeParted (four 1 15 14) 4 (pos 11) → ⊥
CanBeParted-all is = omega (arith, is.few)

CanBeParted-inside : CanBeParted (four 1 15 14) 1 (negsuc 3) → ⊥
CanBeParted-inside is = omega (arith, ints, is.inside.low)

CanBeParted-outside : CanBeParted (four 1 15 14) 3 (pos 2) → ⊥
CanBeParted-outside is = omega (arith, ints, is.outside.high)

-- two values whose sum needs the greatest alone, or the least alone, can't have the other one on either side
CanBeParted-no_least : CanBeParted (record { count = 2; sum = pos 16; min = negsuc 2; max = pos 8; ends = 1; inside = 0; outside = 0 }) 1 (pos 8) → ⊥
CanBeParted-no_least is = elim is.least [
  | inl inside ↦ omega (arith, ints, inside.high)
  | inr outside ↦ omega (arith, ints, outside.high)
]

CanBeParted-no_greatest : CanBeParted (record { count = 2; sum = negsuc 5; min = negsuc 2; max = pos 8; ends = 1; inside = 0; outside = 0 }) 1 (negsuc 2) → ⊥
CanBeParted-no_greatest is = elim is.greatest [
  | inl inside ↦ omega (arith, ints, inside.low)
  | inr outside ↦ omega (arith, ints, outside.low)
]
