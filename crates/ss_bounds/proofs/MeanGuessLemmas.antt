-- The ends of a mean are fractions in order, a guess of it lies between them, and it is left open whether there is one only by one window alone.
use Rattle.std.specs.Prelude.{◌≡◌, ℕ, zero, suc, ◌+◌, ◌-◌, ◌<◌, ◌≤◌, ◌==◌, nat_le, Bool, true, false, if◌then◌else◌, IfSome, unsigned_abs, ◌^◌}
use Rattle.std.specs.Prelude.{ℤ, pos, ◌+ℤ◌, ◌*ℤ◌, ◌≤ℤ◌, List, [], ◌∷◌, Option, None, Some, sum_by}
use Rattle.std.specs.Option.{option_map}
use Rattle.std.proofs.Common.{ap, arith, refl, subst, sym, ◌∙◌}
use Rattle.std.proofs.lemmas.Bool.Decides.{nat_tests}
use Rattle.std.proofs.lemmas.Int.{ints, clamps}
use Rattle.std.proofs.lemmas.List.Sums.{sum_by-cons}
use Rattle.ss_summary.proofs.Bounds.{times-le-times}
use Rattle.ss_bounds.specs.declared.fraction.Fraction.{Fraction}
use Rattle.ss_bounds.specs.declared.mean.Mean.{Mean}
use Rattle.ss_bounds.specs.declared.mean.Mean.TheVariants.{Nothing, Sure, Maybe}
use Rattle.ss_bounds.specs.declared.mean.MeanGuess.TheVariants as guesses
use Rattle.ss_bounds.specs.Fractions.{IsAtMost, IsSame, at_most, at_least, lowest}
use Rattle.ss_bounds.specs.Extremes.{listed}
use Rattle.ss_bounds.specs.Guess.{AreAllSplit, count_guess, whole}
use Rattle.ss_bounds.specs.Means.{AddsUpTo, best_mean, best_of, better, mean_from, mean_interval, so_many, with_values}
use Rattle.ss_bounds.specs.MeanGuess.{HoldsMeanGuess, LiesBetween, mean_guess, quotient_guess, unguessed_mean, with_guess}
use Rattle.ss_bounds.specs.MeanTruth.{AreAttained, EachMayHave, HoldsMean, all_together, figures_alone}
use Rattle.ss_bounds.specs.Split.{IsSplit, SplitFigures, greatest_count, least_count, low_sum, high_sum}
use Rattle.ss_bounds.proofs.AttainedLemmas.{greatest_count-few}
use Rattle.ss_bounds.proofs.BestLemmas.{AreAllSplit-ordered, IsBest, IsBest-best_mean}
use Rattle.ss_bounds.proofs.FractionLemmas.{IsAtMost-refl, IsAtMost-trans, IsOrder-at_least, IsOrder-at_most, IsSame-both}
use Rattle.ss_bounds.proofs.GuessLemmas.{count_guess-within}
use Rattle.ss_bounds.proofs.LowestLemmas.{IsLowest-lowest, IsLowest-unique, lowest-same}
use Rattle.ss_bounds.proofs.MeanTruthLemmas.{mean_interval-AreAttained, mean_interval-HoldsMean, mean_interval-known}
use Rattle.ss_bounds.proofs.PartedLemmas.{low_sum-high_sum}

-- ---- no end is over 0

abbrev IsOver : Option Fraction → Type 0
IsOver None = Unit {0}
IsOver (Some f) = 0 < f.under

mean_of-tested : (values : Fraction) (none : Bool) → (values.under == 0) ≡ none → IsOver (if none then None else Some values)
mean_of-tested values true is = tt
mean_of-tested values false is = grind (arith, nat_tests)

chosen-over : (first : Bool) (a b : Fraction) → 0 < a.under → 0 < b.under → IsOver (if first then Some a else Some b)
chosen-over true a b one other = one
chosen-over false a b one other = other

better-over : (order : Fraction → Fraction → Bool) (a b : Option Fraction) → IsOver a → IsOver b → IsOver (better order a b)
better-over order None b one other = other
better-over order (Some a) None one other = one
better-over order (Some a) (Some b) one other = chosen-over (order a b) a b one other

best_of-over : (order : Fraction → Fraction → Bool) (f : ℕ → Option Fraction) (a n : ℕ) → ((x : ℕ) → IsOver (f x)) → IsOver (best_of order f a n)
best_of-over order f a zero each = each a
best_of-over order f a (suc n) each = better-over order (best_of order f a n) (f (a + suc n)) (best_of-over order f a n each) (each (a + suc n))

best_mean-over : (order : Fraction → Fraction → Bool) (sum : SplitFigures → ℕ → ℤ) (known : Fraction) (splits : List SplitFigures)
    → IsOver (best_mean order sum known splits)
best_mean-over order sum known [] = mean_of-tested known (known.under == 0) refl
best_mean-over order sum known (s ∷ splits) =
    best_of-over order (λ x. best_mean order sum (with_values known (so_many (sum s) x)) splits) (least_count s) (greatest_count s - least_count s)
    (λ x. best_mean-over order sum (with_values known (so_many (sum s) x)) splits)

abbrev pub AreOver : Mean → Type 0
AreOver Nothing = Unit {0}
AreOver (Sure lo hi) = (0 < lo.under) × (0 < hi.under)
AreOver (Maybe lo hi) = (0 < lo.under) × (0 < hi.under)

from-over : (sure : Bool) (lo hi : Option Fraction) → IsOver lo → IsOver hi → AreOver (mean_from sure (option_map lowest lo) (option_map lowest hi))
from-over sure None hi one other = tt
from-over sure (Some l) None one other = tt
from-over true (Some l) (Some h) one other = ((IsLowest-lowest l one).some, (IsLowest-lowest h other).some)
from-over false (Some l) (Some h) one other = ((IsLowest-lowest l one).some, (IsLowest-lowest h other).some)

pub mean_interval-AreOver : (known : Fraction) (splits : List SplitFigures) → AreOver (mean_interval known splits)
unfolding mean_interval
mean_interval-AreOver known splits =
    from-over (nat_le 1 (known.under + sum_by least_count splits)) (best_mean at_most low_sum known splits) (best_mean at_least high_sum known splits)
    (best_mean-over at_most low_sum known splits) (best_mean-over at_least high_sum known splits)

-- ---- the guess of a count has 64 bits

few-listed : (left right : Option SplitFigures) → IfSome left IsSplit → IfSome right IsSplit
    → AreAllSplit (listed left right) × (sum_by greatest_count (listed left right) ≤ 2 ^ 41)
few-listed None None one other = (tt, omega arith)
few-listed None (Some r) one other =
    let few = greatest_count-few r other in
    ((other, tt), omega (arith, few, other.count_high, sum_by-cons greatest_count r []))
few-listed (Some l) None one other =
    let few = greatest_count-few l one in
    ((one, tt), omega (arith, few, one.count_high, sum_by-cons greatest_count l []))
few-listed (Some l) (Some r) one other =
    let few = greatest_count-few l one in
    let few_more = greatest_count-few r other in
    ((one, (other, tt)), omega (arith, few, one.count_high, few_more, other.count_high, sum_by-cons greatest_count l (r ∷ []), sum_by-cons greatest_count r []))

pub few-guessed : (known : ℕ) (left right : Option SplitFigures) (guess : ℤ) → known ≤ 2 ^ 62 → IfSome left IsSplit → IfSome right IsSplit
    → guess ≡ count_guess (pos known) (listed left right) → (pos 0 ≤ℤ guess) × (unsigned_abs guess < 2 ^ 64)
few-guessed known left right guess few one other is =
    let listed_few = few-listed left right one other in
    let within = count_guess-within known (listed left right) listed_few.0 in
    (rw is (omega (arith, ints, within.0)), rw is (omega (arith, ints, within.0, within.1, listed_few.1)))

-- ---- the ends are in order

-- what is reached with the least sums is reached by values of the windows
record IsPartedSo (known : Fraction) (splits : List SplitFigures) (v : Fraction) : Type 0 where
  pub windows : List (SplitFigures × Fraction)
  pub figures : figures_alone windows ≡ splits
  pub may : EachMayHave windows
  pub together : all_together known windows ≡ v

low-parted : (known v : Fraction) (splits : List SplitFigures) → AreAllSplit splits → AddsUpTo low_sum known splits v → IsPartedSo known splits v
low-parted known v [] all reached = record { windows = []; figures = refl; may = tt; together = reached }
low-parted known v (s ∷ splits) all (x, from, to, reached) =
    let rest = low-parted (with_values known (so_many (low_sum s) x)) v splits all.1 reached in
    let order = low_sum-high_sum s all.0 x (omega (arith, greatest_count-few s all.0)) in
    record {
      windows = (s, so_many (low_sum s) x) ∷ rest.windows;
      figures = ap (λ l. s ∷ l) rest.figures;
      may = (record { fewest = from; most = to; low = omega (arith, ints); high = order }, rest.may);
      together = rest.together;
    }

low-HoldsMean : (known v : Fraction) (splits : List SplitFigures) → AreAllSplit splits → AddsUpTo low_sum known splits v →
    HoldsMean (mean_interval known splits) v
low-HoldsMean known v splits all reached =
    let parted = low-parted known v splits all reached in
    subst (HoldsMean (mean_interval known splits)) parted.together
    (subst (λ l. HoldsMean (mean_interval known l) (all_together known parted.windows)) parted.figures
    (mean_interval-HoldsMean known parted.windows parted.may))

abbrev pub AreInOrder : Mean → Type 0
AreInOrder Nothing = Unit {0}
AreInOrder (Sure lo hi) = IsAtMost lo hi
AreInOrder (Maybe lo hi) = IsAtMost lo hi

order-held : (known : Fraction) (splits : List SplitFigures) (m : Mean) → AreAttained known splits m
    → ((v : Fraction) → AddsUpTo low_sum known splits v → HoldsMean m v) → AreInOrder m
order-held known splits Nothing attained holds = tt
order-held known splits (Sure lo hi) attained holds =
    let at = attained.0 in
    let between = holds at.0 at.1 in
    IsAtMost-trans lo at.0 hi at.2 between.1 between.2
order-held known splits (Maybe lo hi) attained holds =
    let at = attained.0 in
    let between = holds at.0 at.1 at.2 in
    IsAtMost-trans lo at.0 hi at.2 between.0 between.1

pub mean_interval-AreInOrder : (known : Fraction) (splits : List SplitFigures) → AreAllSplit splits → AreInOrder (mean_interval known splits)
mean_interval-AreInOrder known splits all =
    order-held known splits (mean_interval known splits) (mean_interval-AreAttained known splits all)
    (λ v reached. low-HoldsMean known v splits all reached)

-- ---- so a guess lies between them

brought-tested : (lo hi a : Fraction) (below above : Bool) → at_most a lo ≡ below → at_most hi a ≡ above → IsAtMost lo hi
    → IsAtMost lo (if below then lo else if above then hi else a) × IsAtMost (if below then lo else if above then hi else a) hi
brought-tested lo hi a true above is other order = (IsAtMost-refl lo, order)
brought-tested lo hi a false true is other order = (order, IsAtMost-refl hi)
brought-tested lo hi a false false is other order = (IsOrder-at_most.no a lo is, IsOrder-at_most.no hi a other)

with_guess-between : (guess : Fraction) (m : Mean) → AreInOrder m → LiesBetween (with_guess guess m)
with_guess-between guess Nothing order = tt
with_guess-between guess (Sure lo hi) order = brought-tested lo hi guess (at_most guess lo) (at_most hi guess) refl refl order
with_guess-between guess (Maybe lo hi) order = brought-tested lo hi guess (at_most guess lo) (at_most hi guess) refl refl order

with_guess-ends : (guess : Fraction) (m : Mean) → unguessed_mean (with_guess guess m) ≡ m
with_guess-ends guess Nothing = refl
with_guess-ends guess (Sure lo hi) = refl
with_guess-ends guess (Maybe lo hi) = refl

pub mean_guess-ends : (known : Fraction) (splits : List SplitFigures) → unguessed_mean (mean_guess known splits) ≡ mean_interval known splits
unfolding mean_guess
mean_guess-ends known splits = with_guess-ends (lowest (quotient_guess known splits)) (mean_interval known splits)

pub mean_guess-between : (known : Fraction) (splits : List SplitFigures) → AreAllSplit splits → LiesBetween (mean_guess known splits)
unfolding mean_guess
mean_guess-between known splits all =
    with_guess-between (lowest (quotient_guess known splits)) (mean_interval known splits) (mean_interval-AreInOrder known splits all)

pub mean_guess-HoldsMeanGuess : (known values : Fraction) (splits : List SplitFigures) → AreAllSplit splits → HoldsMean (mean_interval known splits) values
    → HoldsMeanGuess (mean_guess known splits) values
mean_guess-HoldsMeanGuess known values splits all holds = record {
  truth = subst (λ m. HoldsMean m values) (sym (mean_guess-ends known splits)) holds;
  guess = mean_guess-between known splits all;
}

-- between two ends that are one lies that one alone
brought-one : (a b : Fraction) (below above : Bool) → at_most b a ≡ below → at_most a b ≡ above → (if below then a else if above then a else b) ≡ a
brought-one a b true above is other = refl
brought-one a b false true is other = refl
brought-one a b false false is other = absurd (grind (arith, ints))

pub mean_guess-known : (known : Fraction) → 0 < known.under → mean_guess known [] ≡ guesses.Sure (lowest known) (lowest known) (lowest known)
unfolding mean_guess
mean_guess-known known some =
    let guess = lowest (quotient_guess known []) in
    ap (with_guess guess) (mean_interval-known known some)
    ∙ ap (λ a. guesses.Sure (lowest known) a (lowest known))
    (brought-one (lowest known) guess (at_most guess (lowest known)) (at_most (lowest known) guess) refl refl)

none-tested : (known : Fraction) (none sure : Bool) → (known.under == 0) ≡ none → known.under ≡ 0
    → mean_from sure (option_map lowest (if none then None else Some known)) (option_map lowest (if none then None else Some known)) ≡ Nothing
none-tested known true sure is nothing = refl
none-tested known false sure is nothing = absurd (grind (arith, nat_tests))

pub mean_interval-nothing : (known : Fraction) → known.under ≡ 0 → mean_interval known [] ≡ Nothing
unfolding mean_interval
mean_interval-nothing known nothing = none-tested known (known.under == 0) (nat_le 1 (known.under + 0)) refl nothing

pub mean_guess-nothing : (known : Fraction) → known.under ≡ 0 → mean_guess known [] ≡ guesses.Nothing
unfolding mean_guess
mean_guess-nothing known nothing = ap (with_guess (lowest (quotient_guess known []))) (mean_interval-nothing known nothing)

-- ---- one window alone, of which no value need lie in the range: its ends are its least and greatest value

abbrev pub nothing_known : Fraction
nothing_known = record { over = pos 0; under = 0 }

lowest-whole : (z : ℤ) → lowest (whole z) ≡ whole z
lowest-whole z =
    IsLowest-unique (whole z) (omega arith) (lowest (whole z)) (whole z) (IsLowest-lowest (whole z) (omega arith))
    (record { some = omega arith; same = record { crosswise = refl }; least = λ c some same. omega arith })

-- what is the same as a whole number is it in lowest terms
lowest-is : (a : Fraction) (z : ℤ) → 0 < a.under → IsSame a (whole z) → lowest a ≡ whole z
lowest-is a z some same = lowest-same a (whole z) some (omega arith) same ∙ lowest-whole z

module _ (s : SplitFigures) (split : IsSplit s) where
  low_sum-one : low_sum s 1 ≤ℤ s.min
  low_sum-one = let few = split.sum_high in omega (arith, ints, clamps)

  high_sum-one : s.max ≤ℤ high_sum s 1
  high_sum-one = let few = split.sum_low in omega (arith, ints, clamps)

  low_sum-least : (x : ℕ) → (pos x *ℤ s.min) ≤ℤ low_sum s x
  low_sum-least x = omega (arith, ints, clamps)

  high_sum-greatest : (x : ℕ) → high_sum s x ≤ℤ (pos x *ℤ s.max)
  high_sum-greatest x = omega (arith, ints, clamps)

  least-is : (l : Fraction) → least_count s ≡ 0 → IsBest IsOrder-at_most (AddsUpTo low_sum nothing_known (s ∷ [])) (Some l) → lowest l ≡ whole s.min
  least-is l none best =
      let at = best.reached in
      let under : at.0 ≡ l.under = omega (arith, ap (λ (f : Fraction). f.under) at.3) in
      let over : (pos 0 +ℤ low_sum s at.0) ≡ l.over = ap (λ (f : Fraction). f.over) at.3 in
      let more = best.some in
      let one = best.best (with_values nothing_known (so_many (low_sum s) 1)) (1, omega arith, omega (arith, at.2), refl) (omega arith) in
      let up = one.crosswise in
      let least = low_sum-least at.0 in
      let first = low_sum-one in
      let steps = times-le-times l.under (low_sum s 1) s.min first in
      let beside : (pos 0 +ℤ low_sum s 1) ≡ low_sum s 1 = omega (arith, ints) in
      let turned = ap (λ z. pos l.under *ℤ z) beside in
      let same = ap (λ n. pos n *ℤ s.min) under in
      lowest-is l s.min more (IsSame-both l (whole s.min) (record { crosswise = omega (arith, ints) }) (record { crosswise = omega (arith, ints) }))

  greatest-is : (h : Fraction) → least_count s ≡ 0 → IsBest IsOrder-at_least (AddsUpTo high_sum nothing_known (s ∷ [])) (Some h) → lowest h ≡ whole s.max
  greatest-is h none best =
      let at = best.reached in
      let under : at.0 ≡ h.under = omega (arith, ap (λ (f : Fraction). f.under) at.3) in
      let over : (pos 0 +ℤ high_sum s at.0) ≡ h.over = ap (λ (f : Fraction). f.over) at.3 in
      let more = best.some in
      let one = best.best (with_values nothing_known (so_many (high_sum s) 1)) (1, omega arith, omega (arith, at.2), refl) (omega arith) in
      let down = one.crosswise in
      let greatest = high_sum-greatest at.0 in
      let first = high_sum-one in
      let steps = times-le-times h.under s.max (high_sum s 1) first in
      let beside : (pos 0 +ℤ high_sum s 1) ≡ high_sum s 1 = omega (arith, ints) in
      let turned = ap (λ z. pos h.under *ℤ z) beside in
      let same = ap (λ n. pos n *ℤ s.max) under in
      lowest-is h s.max more (IsSame-both h (whole s.max) (record { crosswise = omega (arith, ints) }) (record { crosswise = omega (arith, ints) }))

  ends-are : (sure : Bool) (lo hi : Option Fraction) (a b : Fraction) → least_count s ≡ 0
      → IsBest IsOrder-at_most (AddsUpTo low_sum nothing_known (s ∷ [])) lo → IsBest IsOrder-at_least (AddsUpTo high_sum nothing_known (s ∷ [])) hi
      → mean_from sure (option_map lowest lo) (option_map lowest hi) ≡ Maybe a b → (a ≡ whole s.min) × (b ≡ whole s.max)
  ends-are sure None hi a b none first second is = cc
  ends-are sure (Some l) None a b none first second is = cc
  ends-are true (Some l) (Some h) a b none first second is = cc
  ends-are false (Some l) (Some h) a b none first second is =
      let low : lowest l ≡ a = cc in
      let high : lowest h ≡ b = cc in
      (sym low ∙ least-is l none first, sym high ∙ greatest-is h none second)

pub mean_interval-alone : (s : SplitFigures) (lo hi : Fraction) → IsSplit s → least_count s ≡ 0 → mean_interval nothing_known (s ∷ []) ≡ Maybe lo hi
    → (lo ≡ whole s.min) × (hi ≡ whole s.max)
unfolding mean_interval
mean_interval-alone s lo hi split none is =
    let ordered = AreAllSplit-ordered (s ∷ []) (split, tt) in
    ends-are s split (nat_le 1 (0 + sum_by least_count (s ∷ []))) (best_mean at_most low_sum nothing_known (s ∷ []))
    (best_mean at_least high_sum nothing_known (s ∷ [])) lo hi none
    (IsBest-best_mean IsOrder-at_most low_sum nothing_known (s ∷ []) ordered)
    (IsBest-best_mean IsOrder-at_least high_sum nothing_known (s ∷ []) ordered) is

-- and no value is known, or surely there, where it is left open whether there is one
maybe-tested : (many : ℕ) (sure : Bool) (lo hi : Option Fraction) (a b : Fraction) → nat_le 1 many ≡ sure → mean_from sure lo hi ≡ Maybe a b → many ≡ 0
maybe-tested many sure None hi a b is maybe = cc
maybe-tested many sure (Some l) None a b is maybe = cc
maybe-tested many true (Some l) (Some h) a b is maybe = cc
maybe-tested many false (Some l) (Some h) a b is maybe = grind (arith, nat_tests)

pub mean_interval-maybe : (known : Fraction) (splits : List SplitFigures) (lo hi : Fraction) → mean_interval known splits ≡ Maybe lo hi
    → known.under + sum_by least_count splits ≡ 0
unfolding mean_interval
mean_interval-maybe known splits lo hi maybe =
    maybe-tested (known.under + sum_by least_count splits) (nat_le 1 (known.under + sum_by least_count splits))
    (option_map lowest (best_mean at_most low_sum known splits)) (option_map lowest (best_mean at_least high_sum known splits)) lo hi refl maybe
