-- Worked rows of what is true of means, each on both sides of it.
use Rattle.std.specs.Prelude.{◌≡◌, pos, negsuc, [], ◌∷◌, map}
use Rattle.std.proofs.Common.{ap, arith, inl, inr, lit≤, refl}
use Rattle.std.proofs.lemmas.Int.{ints}
use Rattle.ss_bounds.specs.declared.fraction.Fraction.{Fraction}
use Rattle.ss_bounds.specs.declared.mean.Mean.TheVariants.{Nothing, Sure, Maybe}
use Rattle.ss_bounds.specs.Fractions.{IsAtMost, IsLowest, lowest}
use Rattle.ss_bounds.specs.MeanTruth.{AreWithin, HoldsMean, AttainsMean, MayHave, all_together, counts_between, sums_between}
use Rattle.ss_bounds.specs.Split.{high_sum, low_sum, sum_interval}
use Rattle.ss_bounds.proofs.MeanRows.{four, fraction, two}

-- in lowest terms: 6/4, -6/4, 0/5 and 5/5
lowest-four : map lowest (fraction (pos 6) 4 ∷ fraction (negsuc 5) 4 ∷ fraction (pos 0) 5 ∷ fraction (pos 5) 5 ∷ [])
    ≡ fraction (pos 3) 2 ∷ fraction (negsuc 2) 2 ∷ fraction (pos 0) 1 ∷ fraction (pos 1) 1 ∷ []
unfolding lowest
lowest-four = refl

-- not in lowest terms are 2/4, another number, and what is over 0
IsLowest-twice : IsLowest (fraction (pos 2) 4) (fraction (pos 2) 4) → ⊥
IsLowest-twice is = let least = is.least (fraction (pos 1) 2) (lit≤ tt) (record { crosswise = refl }) in omega (arith, least)

IsLowest-other : IsLowest (fraction (pos 2) 4) (fraction (pos 1) 3) → ⊥
IsLowest-other is = let same = is.same.crosswise in omega (arith, ints)

IsLowest-nothing : IsLowest (fraction (pos 0) 0) (fraction (pos 0) 0) → ⊥
IsLowest-nothing is = omega (arith, is.some)

-- 1/2 is at most 2/4 and no less than it
IsAtMost-same : IsAtMost (fraction (pos 1) 2) (fraction (pos 2) 4)
IsAtMost-same = record { crosswise = omega (arith, ints) }

IsAtMost-more : IsAtMost (fraction (pos 2) 3) (fraction (pos 1) 2) → ⊥
IsAtMost-more is = let crosswise = is.crosswise in omega (arith, ints)

-- from 10 to 25 two values of the four lie in the range, from -5 to 16 together, and one to three may
MayHave-lowest : MayHave (four 1 15 14) (fraction (negsuc 4) 2)
MayHave-lowest = record { fewest = lit≤ tt; most = lit≤ tt; low = omega (arith, ints); high = omega (arith, ints) }

MayHave-highest : MayHave (four 1 15 14) (fraction (pos 16) 2)
MayHave-highest = record { fewest = lit≤ tt; most = lit≤ tt; low = omega (arith, ints); high = omega (arith, ints) }

MayHave-below : MayHave (four 1 15 14) (fraction (negsuc 5) 2) → ⊥
MayHave-below may = let low = may.low in omega (arith, ints)

MayHave-above : MayHave (four 1 15 14) (fraction (pos 17) 2) → ⊥
MayHave-above may = let high = may.high in omega (arith, ints)

MayHave-none : MayHave (four 1 15 14) (fraction (pos 0) 0) → ⊥
MayHave-none may = omega (arith, may.fewest)

MayHave-all : MayHave (four 1 15 14) (fraction (pos 11) 4) → ⊥
MayHave-all may = omega (arith, may.most)

-- with 7 beside them
all_together-two : all_together (fraction (pos 7) 1) ((four 1 15 14, fraction (pos 2) 2) ∷ (two, fraction (pos 9) 1) ∷ []) ≡ fraction (pos 18) 4
all_together-two = refl

-- an interval holds its ends and no mean past them, nor none where one is sure
HoldsMean-ends : HoldsMean (Sure (fraction (negsuc 0) 1) (fraction (pos 17) 2)) (fraction (pos 34) 4)
HoldsMean-ends = (lit≤ tt, record { crosswise = omega (arith, ints) }, record { crosswise = omega (arith, ints) })

HoldsMean-above : HoldsMean (Sure (fraction (negsuc 0) 1) (fraction (pos 17) 2)) (fraction (pos 35) 4) → ⊥
HoldsMean-above holds = let high = holds.2.crosswise in omega (arith, ints)

HoldsMean-below : HoldsMean (Sure (fraction (negsuc 0) 1) (fraction (pos 17) 2)) (fraction (negsuc 4) 4) → ⊥
HoldsMean-below holds = let low = holds.1.crosswise in omega (arith, ints)

HoldsMean-none : HoldsMean (Sure (fraction (pos 0) 1) (fraction (pos 0) 1)) (fraction (pos 0) 0) → ⊥
HoldsMean-none holds = omega (arith, holds.0)

HoldsMean-maybe_none : HoldsMean (Maybe (fraction (pos 1) 1) (fraction (pos 2) 1)) (fraction (pos 0) 0)
HoldsMean-maybe_none = λ more. absurd (omega arith)

HoldsMean-maybe_above : HoldsMean (Maybe (fraction (pos 1) 1) (fraction (pos 2) 1)) (fraction (pos 5) 2) → ⊥
HoldsMean-maybe_above holds = let high = (holds (lit≤ tt)).1.crosswise in omega (arith, ints)

HoldsMean-maybe_below : HoldsMean (Maybe (fraction (pos 1) 1) (fraction (pos 2) 1)) (fraction (pos 1) 2) → ⊥
HoldsMean-maybe_below holds = let low = (holds (lit≤ tt)).0.crosswise in omega (arith, ints)

HoldsMean-nothing : HoldsMean Nothing (fraction (pos 1) 1) → ⊥
HoldsMean-nothing holds = omega (arith, holds)

-- 17/2 is attained by 8 and 9, and -1 by -3, -2 and 2; what is over 0 isn't
AttainsMean-high : AttainsMean high_sum (fraction (pos 0) 0) (four 1 15 14 ∷ two ∷ []) (fraction (pos 17) 2)
AttainsMean-high = (fraction (pos 17) 2, (1, lit≤ tt, lit≤ tt, (1, lit≤ tt, lit≤ tt, refl)), lit≤ tt, record { crosswise = refl })

AttainsMean-low : AttainsMean low_sum (fraction (pos 0) 0) (four 1 15 14 ∷ two ∷ []) (fraction (negsuc 0) 1)
AttainsMean-low = (fraction (negsuc 2) 3, (2, lit≤ tt, lit≤ tt, (1, lit≤ tt, lit≤ tt, refl)), lit≤ tt, record { crosswise = refl })

AttainsMean-none : AttainsMean low_sum (fraction (pos 0) 0) [] (fraction (pos 0) 1) → ⊥
AttainsMean-none at = let under = ap (λ (f : Fraction). f.under) at.1 in omega (arith, at.2)

AttainsMean-other : AttainsMean low_sum (fraction (pos 1) 1) [] (fraction (pos 2) 1) → ⊥
AttainsMean-other at =
    let under = ap (λ (f : Fraction). f.under) at.1 in
    let over = ap (λ (f : Fraction). f.over) at.1 in
    let same = at.3.crosswise in
    omega (arith, ints)

-- the sums and the counts of both windows, and the ends that are within the one over the other
between-both : sums_between (fraction (pos 7) 1) (four 1 15 14 ∷ two ∷ []) ≡ (pos 4, pos 32)
unfolding sum_interval
between-both = refl

counts-both : counts_between (fraction (pos 7) 1) (four 1 15 14 ∷ two ∷ []) ≡ (3, 5)
counts-both = refl

AreWithin-ends : AreWithin (negsuc 2, pos 25) (2, 4) (fraction (negsuc 2) 2) (fraction (pos 25) 2)
AreWithin-ends = record { low = inl (record { crosswise = omega (arith, ints) }); high = inl (record { crosswise = omega (arith, ints) }) }

AreWithin-other_sides : AreWithin (pos 3, negsuc 2) (0, 4) (fraction (pos 3) 4) (fraction (negsuc 2) 4)
AreWithin-other_sides = record { low = inr (record { crosswise = omega (arith, ints) }); high = inr (record { crosswise = omega (arith, ints) }) }

AreWithin-below : AreWithin (negsuc 2, pos 25) (2, 4) (fraction (negsuc 3) 2) (fraction (pos 25) 2) → ⊥
AreWithin-below is = elim is.low [
  | inl low ↦ (let crosswise = low.crosswise in omega (arith, ints))
  | inr low ↦ (let crosswise = low.crosswise in omega (arith, ints))
]

AreWithin-above : AreWithin (negsuc 2, pos 25) (2, 4) (fraction (negsuc 2) 2) (fraction (pos 26) 2) → ⊥
AreWithin-above is = elim is.high [
  | inl high ↦ (let crosswise = high.crosswise in omega (arith, ints))
  | inr high ↦ (let crosswise = high.crosswise in omega (arith, ints))
]
