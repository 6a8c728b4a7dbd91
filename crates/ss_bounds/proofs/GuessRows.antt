-- Worked rows of guesses and of several intervals, each computed.
use Rattle.std.specs.Prelude.{◌≡◌, ℕ, ℤ, pos, negsuc, List, [], ◌∷◌, map, None, Some}
use Rattle.std.proofs.Common.{arith, lit≤, refl}
use Rattle.std.proofs.lemmas.Int.{ints}
use Rattle.ss_bounds.specs.declared.extreme.Extreme.TheVariants.{Nothing, Sure, Maybe}
use Rattle.ss_bounds.specs.Split.{SplitFigures}
use Rattle.ss_bounds.specs.Guess.{Fraction, nearest, guess_of_count, guess_of_sum, count_guess, sum_guess}
use Rattle.ss_bounds.specs.Several.{HoldsCount, HoldsSum, sum_of_counts, sum_of_sums, lesser_of, greater_of, least_of_all, greatest_of_all}
use Rattle.ss_bounds.specs.Several.{least_truth, greatest_truth}

-- the values 5, -3, 8 and 1 at the times 10, 20, 30 and 40, and 9 and 2 at 50 and 60
abbrev four : ℕ → ℕ → ℕ → SplitFigures
four ends inside outside = record {
  count = 4;
  sum = pos 11;
  min = negsuc 2;
  max = pos 8;
  ends = ends;
  inside = inside;
  outside = outside;
}

abbrev two : SplitFigures
two = record { count = 2; sum = pos 11; min = pos 2; max = pos 9; ends = 1; inside = 5; outside = 4 }

abbrev fraction : ℤ → ℕ → Fraction
fraction over under = record { over = over; under = under }

-- the guesses of a count and of a sum, from what is known of each
abbrev guesses : ℤ → ℤ → List SplitFigures → ℤ × ℤ
guesses count sum splits = (count_guess count splits, sum_guess sum splits)

-- from 10 to 25: of the two values between the ends 15 of 29 parts, and 59 of 116 parts of the sum
count-four : guess_of_count (four 1 15 14) ≡ fraction (pos 59) 29
count-four = refl

sum-four : guess_of_sum (four 1 15 14) ≡ fraction (pos 649) 116
sum-four = refl

guesses-four : guesses (pos 0) (pos 0) (four 1 15 14 ∷ []) ≡ (pos 2, pos 6)
guesses-four = refl

-- from 25 to 55 both windows are split, and from 45 to 55 the second one, with half of 11
guesses-both : guesses (pos 0) (pos 0) (four 1 15 14 ∷ two ∷ []) ≡ (pos 3, pos 11)
guesses-both = refl

guesses-two : guesses (pos 0) (pos 0) (two ∷ []) ≡ (pos 1, pos 6)
guesses-two = refl

-- from 10 to 34 and from 35 to 59, and from 60 to 70 beside a value 7 that is known
guesses-rows : map (sum_guess (pos 0)) ((four 1 24 5 ∷ []) ∷ (four 1 5 24 ∷ two ∷ []) ∷ []) ≡ pos 7 ∷ pos 9 ∷ []
guesses-rows = refl

guesses-beside : guesses (pos 1) (pos 7) (two ∷ []) ≡ (pos 2, pos 12)
guesses-beside = refl

-- three values with the sum 6 and three with 15, each with one end and two of four free times in the range: one and a half of each,
-- which are three, where each rounded alone would make four; and 10.5, which is rounded to the even 10
abbrev three : ℤ → SplitFigures
three sum = record { count = 3; sum = sum; min = pos 0; max = pos 9; ends = 1; inside = 2; outside = 2 }

guesses-once : guesses (pos 0) (pos 0) (three (pos 6) ∷ three (pos 15) ∷ []) ≡ (pos 3, pos 10)
guesses-once = refl

-- no free time between two values with the sum -5: half of it, -2.5, is rounded to -2, and with -2 beside it to -4
abbrev close : SplitFigures
close = record { count = 2; sum = negsuc 4; min = negsuc 3; max = negsuc 0; ends = 1; inside = 0; outside = 0 }

guesses-close : guesses (pos 0) (pos 0) (close ∷ []) ≡ (pos 1, negsuc 1)
guesses-close = refl

guesses-close_beside : guesses (pos 1) (negsuc 1) (close ∷ []) ≡ (pos 2, negsuc 3)
guesses-close_beside = refl

-- where nothing is split the guess is what is known
guesses-known : guesses (pos 7) (negsuc 6) [] ≡ (pos 7, negsuc 6)
guesses-known = refl

-- a third and two thirds, and halves between an even number and an odd one, on either side of 0
nearest-thirds : map nearest (fraction (pos 7) 3 ∷ fraction (pos 8) 3 ∷ fraction (negsuc 6) 3 ∷ fraction (negsuc 7) 3 ∷ [])
    ≡ pos 2 ∷ pos 3 ∷ negsuc 1 ∷ negsuc 2 ∷ []
nearest-thirds = refl

nearest-halves : map nearest (fraction (pos 1) 2 ∷ fraction (pos 3) 2 ∷ fraction (pos 5) 2 ∷ fraction (negsuc 0) 2 ∷ fraction (negsuc 2) 2 ∷ [])
    ≡ pos 0 ∷ pos 2 ∷ pos 2 ∷ pos 0 ∷ negsuc 1 ∷ []
nearest-halves = refl

-- as many values as a window holds, over as many times as there may be
abbrev full : SplitFigures
full = record {
  count = 1099511627776;
  sum = negsuc 10141204801825835211973625643007;
  min = negsuc 9223372036854775807;
  max = negsuc 9223372036854775807;
  ends = 1;
  inside = 4611686018427387904;
  outside = 4611686018427387904;
}

guesses-full : guesses (pos 0) (pos 0) (full ∷ []) ≡ (pos 549755813888, negsuc 5070602400912917605986812821503)
guesses-full = refl

-- an interval holds its ends and no number past them
HoldsCount-ends : HoldsCount (2, 4) 2 × HoldsCount (2, 4) 4
HoldsCount-ends = ((lit≤ tt, lit≤ tt), (lit≤ tt, lit≤ tt))

HoldsCount-below : HoldsCount (2, 4) 1 → ⊥
HoldsCount-below holds = omega (arith, holds.0)

HoldsCount-above : HoldsCount (2, 4) 5 → ⊥
HoldsCount-above holds = omega (arith, holds.1)

HoldsSum-ends : HoldsSum (negsuc 0, pos 1) (negsuc 0) × HoldsSum (negsuc 0, pos 1) (pos 1)
HoldsSum-ends = ((omega (arith, ints), omega (arith, ints)), (omega (arith, ints), omega (arith, ints)))

HoldsSum-below : HoldsSum (negsuc 0, pos 1) (negsuc 1) → ⊥
HoldsSum-below holds = omega (arith, ints, holds.0)

HoldsSum-above : HoldsSum (negsuc 0, pos 1) (pos 2) → ⊥
HoldsSum-above holds = omega (arith, ints, holds.1)

counts-three : sum_of_counts ((1, 2) ∷ (0, 4) ∷ (3, 3) ∷ []) ≡ (4, 9)
counts-three = refl

sums-two : sum_of_sums ((negsuc 4, pos 2) ∷ (pos 1, pos 9) ∷ []) ≡ (negsuc 3, pos 11)
sums-two = refl

-- of two least values, each of which there is, may be, or isn't
lesser-sure : map (lesser_of (Sure (pos 2) (pos 7))) (Nothing ∷ Sure (pos 1) (pos 9) ∷ Sure (pos 3) (pos 4) ∷ Maybe (pos 1) (pos 3) ∷ [])
    ≡ Sure (pos 2) (pos 7) ∷ Sure (pos 1) (pos 7) ∷ Sure (pos 2) (pos 4) ∷ Sure (pos 1) (pos 7) ∷ []
lesser-sure = refl

lesser-maybe : map (lesser_of (Maybe (pos 2) (pos 7))) (Nothing ∷ Sure (pos 1) (pos 9) ∷ Sure (pos 3) (pos 4) ∷ Maybe (pos 1) (pos 8) ∷ [])
    ≡ Maybe (pos 2) (pos 7) ∷ Sure (pos 1) (pos 9) ∷ Sure (pos 2) (pos 4) ∷ Maybe (pos 1) (pos 8) ∷ []
lesser-maybe = refl

greater-sure : map (greater_of (Sure (pos 2) (pos 7))) (Nothing ∷ Sure (pos 1) (pos 9) ∷ Sure (pos 3) (pos 4) ∷ Maybe (pos 5) (pos 8) ∷ [])
    ≡ Sure (pos 2) (pos 7) ∷ Sure (pos 2) (pos 9) ∷ Sure (pos 3) (pos 7) ∷ Sure (pos 2) (pos 8) ∷ []
greater-sure = refl

greater-maybe : map (greater_of (Maybe (pos 2) (pos 7))) (Nothing ∷ Sure (pos 1) (pos 9) ∷ Sure (pos 3) (pos 4) ∷ Maybe (pos 1) (pos 8) ∷ [])
    ≡ Maybe (pos 2) (pos 7) ∷ Sure (pos 1) (pos 9) ∷ Sure (pos 3) (pos 7) ∷ Maybe (pos 1) (pos 8) ∷ []
greater-maybe = refl

-- of three, one of which isn't there
least-three : least_of_all (Sure (pos 2) (pos 7) ∷ Nothing ∷ Maybe (pos 1) (pos 3) ∷ []) ≡ Sure (pos 1) (pos 7)
least-three = refl

greatest-three : greatest_of_all (Sure (pos 2) (pos 7) ∷ Nothing ∷ Maybe (pos 1) (pos 3) ∷ []) ≡ Sure (pos 2) (pos 7)
greatest-three = refl

truths-three : map (λ f. f (Some (pos 4) ∷ None ∷ Some (pos 2) ∷ [])) (least_truth ∷ greatest_truth ∷ []) ≡ Some (pos 2) ∷ Some (pos 4) ∷ []
truths-three = refl

none-known : map (λ f. f []) (least_of_all ∷ greatest_of_all ∷ []) ≡ Nothing ∷ Nothing ∷ []
none-known = refl

none-true : map (λ f. f []) (least_truth ∷ greatest_truth ∷ []) ≡ None ∷ None ∷ []
none-true = refl
